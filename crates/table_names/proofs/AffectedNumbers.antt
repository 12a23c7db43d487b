-- The names that a change affects, by edges and by words.
use Rattle.std.proofs.Common.{◌≡◌, ◌⊎◌, ℕ, Bool, true, List, Contains, refl, sym, ap, subst, inl, inr}
use Rattle.expr_tree.specs.declared.word_list.WordUse.{WordUse}
use Rattle.def_entry.specs.declared.key.Key.{Key}
use Rattle.def_entry.specs.Tables.{EntryTable}
use Rattle.edge_links.specs.Reach.{HasLinkEdge}
use Rattle.edge_links.specs.Reach as edges
use Rattle.edge_links.specs.AffectedNames.{AreAffectedByEdges, NeedsByEdges}
use Rattle.edge_links.specs.AffectedNames as by_edges
use Rattle.edge_links.specs.NameGraphs.{NameEdgeGraph}
use Rattle.table_names.specs.AffectedKeys.{HasTableNameLooked, IsAffectedTableName}
use Rattle.table_names.specs.Leads.{TableNameReaches, TableWordsLeadTo, TableWordsReach, at_once, further}
use Rattle.table_names.specs.Words.{table_words_of_key}
use Rattle.table_names.specs.EdgeLaws.{AffectedNumberedNamesLaw, AreNumberedNameEdges, AreNumbersOfNames}

module _ (table : EntryTable) (key : ℕ → Key) (size : ℕ) (settled : ℕ → Bool) (g : NameEdgeGraph)
    (are : AreNumberedNameEdges table key size settled g)
    (keys : List Key) (numbers : List ℕ) (of : AreNumbersOfNames key size keys numbers) where
  -- ---- from edges to words
  way_down : {n m : ℕ} → edges.LinkReaches g.uses n m → TableNameReaches table (key n) (key m)
  way_down (edges.at_once {x = n} {y = m} h) =
      at_once ((are.use_edges n (are.used_settled n m h).0 (key m)).1 (m, h, refl))
  way_down (edges.further {x = n} {y = m} h r) =
      further ((are.use_edges n (are.used_settled n m h).0 (key m)).1 (m, h, refl)) (way_down r)

  -- a name at the end of a way that looked at a changed key affects the name at its start
  by_needs : {n m : ℕ} → NeedsByEdges g n m → HasTableNameLooked table keys (key m)
      → IsAffectedTableName table keys (key n)
  by_needs (inl e) h = inr (inl (subst (λ x. HasTableNameLooked table keys (key x)) (sym e) h))
  by_needs {m = m} (inr r) h = inr (inr (key m, way_down r, h))

  looked_by : (m i : ℕ) → HasLinkEdge g.uses m i ⊎ HasLinkEdge g.looks m i → settled m ≡ true → Contains numbers i
      → HasTableNameLooked table keys (key m)
  looked_by m i h s c = (key i, of.of_keys i c, (are.look_edges m s (key i)).1 (i, h, refl))

  needs_onward : {n m k : ℕ} → HasLinkEdge g.uses n m → NeedsByEdges g m k → NeedsByEdges g n k
  needs_onward {n = n} h (inl e) = inr (edges.at_once (subst (λ x. HasLinkEdge g.uses n x) e h))
  needs_onward h (inr r) = inr (edges.further h r)

  -- each way ends with an edge
  last_edge : {n i : ℕ} → edges.LinkReaches g.uses n i → (m : ℕ) × NeedsByEdges g n m × HasLinkEdge g.uses m i
  last_edge (edges.at_once {x = n} h) = (n, inl refl, h)
  last_edge (edges.further h r) = let l = last_edge r in (l.0, needs_onward h l.1, l.2)

  by_words : (n i : ℕ) → Contains numbers i → by_edges.IsAffectedByEdges g i n → IsAffectedTableName table keys (key n)
  by_words n i c (inl (inl e)) = inl (subst (λ x. Contains keys (key x)) (sym e) (of.of_keys i c))
  by_words n i c (inl (inr r)) =
      let l = last_edge r in by_needs l.1 (looked_by l.0 i (inl l.2) (are.used_settled l.0 i l.2).0 c)
  by_words n i c (inr (m, l, w)) = by_needs w (looked_by m i (inr l) (are.beside m i l).0 c)

  -- ---- from words to edges
  way_up : {words : List WordUse} {k : Key} → TableWordsReach table words k → (n : ℕ) → settled n ≡ true
      → words ≡ table_words_of_key table (key n)
      → (m : ℕ) × edges.LinkReaches g.uses n m × (k ≡ key m)
  way_up {k = k} (at_once l) n s e =
      let u = (are.use_edges n s k).0 (subst (λ (us : List WordUse). TableWordsLeadTo table us k) e l) in
      (u.0, edges.at_once u.1, u.2)
  way_up (further {n = x} l r) n s e =
      let u = (are.use_edges n s x).0 (subst (λ (us : List WordUse). TableWordsLeadTo table us x) e l) in
      let w = way_up r u.0 (are.used_settled n u.0 u.1).1 (ap (table_words_of_key table) u.2) in
      (w.0, edges.further u.1 w.1, w.2)

  ends : {n m : ℕ} → edges.LinkReaches g.uses n m → settled m ≡ true
  ends (edges.at_once {x = n} {y = m} h) = (are.used_settled n m h).1
  ends (edges.further h r) = ends r

  needs_use : {n m i : ℕ} → NeedsByEdges g n m → HasLinkEdge g.uses m i → NeedsByEdges g n i
  needs_use {i = i} (inl e) h = inr (edges.at_once (subst (λ x. HasLinkEdge g.uses x i) (sym e) h))
  needs_use (inr r) h = inr (behind r h)
    where
      behind : {n m i : ℕ} → edges.LinkReaches g.uses n m → HasLinkEdge g.uses m i → edges.LinkReaches g.uses n i
      behind (edges.at_once h) l = edges.further h (edges.at_once l)
      behind (edges.further h r) l = edges.further h (behind r l)

  by_look : (n m : ℕ) → NeedsByEdges g n m → settled m ≡ true → HasTableNameLooked table keys (key m)
      → AreAffectedByEdges g numbers n
  by_look n m w s (k, c, h) =
      let l = (are.look_edges m s k).0 h in
      at l.0 l.1 (subst (λ (x : Key). Contains keys x) l.2 c)
    where
      at : (i : ℕ) → HasLinkEdge g.uses m i ⊎ HasLinkEdge g.looks m i → Contains keys (key i)
          → AreAffectedByEdges g numbers n
      at i (inl h) c = (i, of.every i (are.settled_in_range i (are.used_settled m i h).1) c, inl (needs_use w h))
      at i (inr h) c = (i, of.every i (are.beside m i h).1 c, inr (m, h, w))

  by_numbers : (n : ℕ) → settled n ≡ true → IsAffectedTableName table keys (key n) → AreAffectedByEdges g numbers n
  by_numbers n s (inl c) = (n, of.every n (are.settled_in_range n s) c, inl (inl refl))
  by_numbers n s (inr (inl h)) = by_look n n (inl refl) s h
  by_numbers n s (inr (inr (k, r, h))) =
      let w = way_up r n s refl in
      by_look n w.0 (inr w.1) (ends w.1) (subst (λ (x : Key). HasTableNameLooked table keys x) w.2 h)

-- the law of affected numbers
pub affected_numbered_names_law : AffectedNumberedNamesLaw
affected_numbered_names_law table key size settled g are keys numbers of n s = (
  λ a. by_words table key size settled g are keys numbers of n a.0 a.1 a.2,
  by_numbers table key size settled g are keys numbers of n s,
)
