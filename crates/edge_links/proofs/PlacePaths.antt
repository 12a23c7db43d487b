-- Reachability by edges is reachability by places.
use Rattle.std.proofs.Common.{◌≡◌, ℕ, zero, suc, ◌+◌, ◌<◌, List, ◌++◌, length, get_or, sym, ◌∙◌, ap, subst, arith, inl}
use Rattle.std.proofs.Common.{inr}
use Rattle.std.proofs.lemmas.Bool.{cases_eq}
use Rattle.edge_links.specs.Edges.{LinkEdge, link_edge_count}
use Rattle.edge_links.specs.Owners.{LinkOwners, AreLinkEdges, IsLinkHead}
use Rattle.edge_links.specs.PlaceReach.{IsLinkFromTo}
use Rattle.edge_links.specs.PlaceReach as place
use Rattle.edge_links.specs.Reach.{HasLinkEdge, LinkReaches, at_once, further, IsAffectedLinkNode}
use Rattle.edge_links.specs.PlaceView.{link_edge_at, link_edges_below, AreLinks}
use Rattle.edge_links.proofs.EdgeCounts.{counted_link_edge_is_between, link_edge_count_appends}
use Rattle.edge_links.proofs.EdgeCounts.{link_edge_counts_itself_once}
use Rattle.edge_links.proofs.FirstEdges.{user, key_of, place_is_link_edge_or_not, head_or_free_is_no_link_edge}
use Rattle.edge_links.proofs.FirstEdges.{owned_place_is_link_edge}

-- an edge that is counted is at a place
pub record Stands (s : LinkOwners) (n x y : ℕ) : Type 0 where
  pub place : ℕ
  pub there : place < n
  pub edge : (user s place ≡ place → ⊥) × (user s place ≡ 0 → ⊥)
  pub names_it : (get_or s.names (user s place) 0 ≡ x) × (get_or s.names (key_of s place) 0 ≡ y)

-- an edge that is counted is at a place
pub counted_link_edge_has_place : (s : LinkOwners) (x y n : ℕ) → 0 < link_edge_count (link_edges_below s n) x y
    → Stands s n x y
counted_link_edge_has_place s x y zero l = absurd (omega (arith, l))
counted_link_edge_has_place s x y (suc n) l = elim (place_is_link_edge_or_not s n) [
  | inl h ↦ later (counted_link_edge_has_place s x y n
      (subst (λ es. 0 < link_edge_count (es ++ link_edges_below s n) x y) (head_or_free_is_no_link_edge s n h) l))
  | inr h ↦ elim (cases_eq (link_edge_count (link_edge_at s n) x y) 0) [
    | inl z ↦ later (counted_link_edge_has_place s x y n
        (rest _ _ _ (link_edge_count_appends (link_edge_at s n) (link_edges_below s n) x y) z l))
    | inr nz ↦ record {
      place = n;
      there = omega arith;
      edge = h;
      names_it = counted_link_edge_is_between _ _ x y
          (subst (λ es. 0 < link_edge_count es x y) (owned_place_is_link_edge s n h.0 h.1) (omega arith));
    }
  ]
]
  where
    later : Stands s n x y → Stands s (suc n) x y
    later t = record { place = t.place; there = let z = t.there in omega arith; edge = t.edge; names_it = t.names_it }

    rest : (a b d : ℕ) → a ≡ b + d → b ≡ 0 → 0 < a → 0 < d
    rest a b d e f g = omega arith

-- an edge at a place is counted
pub placed_link_edge_is_counted : (s : LinkOwners) (p n : ℕ) → p < n → (user s p ≡ p → ⊥) → (user s p ≡ 0 → ⊥)
    → 0 < link_edge_count (link_edges_below s n) (get_or s.names (user s p) 0) (get_or s.names (key_of s p) 0)
placed_link_edge_is_counted s p zero l a b = absurd (omega arith)
placed_link_edge_is_counted s p (suc n) l a b = elim (cases_eq p n) [
  | inl e ↦ first _ _ _
      (link_edge_count_appends (link_edge_at s n) (link_edges_below s n) (get_or s.names (user s p) 0)
      (get_or s.names (key_of s p) 0))
      (ap (λ q. link_edge_count (link_edge_at s q) (get_or s.names (user s p) 0) (get_or s.names (key_of s p) 0))
      (sym e)
      ∙ (ap (λ es. link_edge_count es (get_or s.names (user s p) 0) (get_or s.names (key_of s p) 0))
      (owned_place_is_link_edge s p a b)
      ∙ link_edge_counts_itself_once
      (get_or s.names (user s p) 0) (get_or s.names (key_of s p) 0)))
  | inr ne ↦ later _ _ _
      (link_edge_count_appends (link_edge_at s n) (link_edges_below s n) (get_or s.names (user s p) 0)
      (get_or s.names (key_of s p) 0))
      (placed_link_edge_is_counted s p n (omega arith) a b)
]
  where
    first : (a b d : ℕ) → a ≡ b + d → b ≡ 1 → 0 < a
    first a b d e f = omega arith

    later : (a b d : ℕ) → a ≡ b + d → 0 < d → 0 < a
    later a b d e f = omega arith

module _ (s : LinkOwners) (e : AreLinkEdges s.users s.keys) (nodes : List ℕ) (links : AreLinks s nodes) where
  abbrev pub shown_edges : List LinkEdge
  shown_edges = link_edges_below s (length s.users)

  -- the user and the key of an edge are heads
  pub user_head : (p : ℕ) → p < length s.users → (user s p ≡ 0 → ⊥) → IsLinkHead s (user s p)
  user_head p l nz = (e.owners_within p l, e.top p l, nz)

  pub key_head : (p : ℕ) → p < length s.users → (user s p ≡ 0 → ⊥) → IsLinkHead s (key_of s p)
  key_head p l nz = (e.key_within p l, e.key_top p l, λ z. nz ((e.free p l).1 z))

  edge_down : (x y : ℕ) → HasLinkEdge shown_edges x y → (p : ℕ) × IsLinkFromTo s p (get_or nodes x 0) (get_or nodes y 0)
  edge_down x y h =
      let t = counted_link_edge_has_place s x y (length s.users) h in
      let u = links.head_of_name (user s t.place) (user_head t.place t.there t.edge.1) in
      let k = links.head_of_name (key_of s t.place) (key_head t.place t.there t.edge.1) in (
        t.place,
        (
          t.there,
          t.edge.0,
          t.edge.1,
          sym u.1 ∙ ap (λ z. get_or nodes z 0) t.names_it.0,
          sym k.1
              ∙ ap (λ z. get_or nodes z 0) t.names_it.1,
        ),
      )

  edge_up : (p a b : ℕ) → IsLinkFromTo s p a b → HasLinkEdge shown_edges (get_or s.names a 0) (get_or s.names b 0)
  edge_up p a b i =
      subst (λ z. HasLinkEdge shown_edges (get_or s.names z 0) (get_or s.names b 0)) i.3
      (subst (λ z. HasLinkEdge shown_edges (get_or s.names (user s p) 0) (get_or s.names z 0)) i.4
      (placed_link_edge_is_counted s p (length s.users) i.0 i.1 i.2))

  down : {x y : ℕ} → LinkReaches shown_edges x y → place.LinkPlaceReaches s (get_or nodes x 0) (get_or nodes y 0)
  down (at_once h) = let i = edge_down _ _ h in place.at_once i.0 i.1
  down (further h r) = let i = edge_down _ _ h in place.further i.0 i.1 (down r)

  up : {a b : ℕ} → place.LinkPlaceReaches s a b → LinkReaches shown_edges (get_or s.names a 0) (get_or s.names b 0)
  up (place.at_once p i) = at_once (edge_up p _ _ i)
  up (place.further p i r) = further (edge_up p _ _ i) (up r)

  pub affected_down : (key x : ℕ) → IsAffectedLinkNode shown_edges key x
      → place.IsAffectedLinkPlace s (get_or nodes key 0) (get_or nodes x 0)
  affected_down key x (inl q) = inl (ap (λ z. get_or nodes z 0) q)
  affected_down key x (inr r) = inr (down r)

  pub affected_up : (key h : ℕ) → key < length nodes → place.IsAffectedLinkPlace s (get_or nodes key 0) h
      → IsAffectedLinkNode shown_edges key (get_or s.names h 0)
  affected_up key h l (inl q) = inl (ap (λ z. get_or s.names z 0) q ∙ (links.places key l).1)
  affected_up key h l (inr r) =
      inr (subst (λ z. LinkReaches shown_edges (get_or s.names h 0) z) (links.places key l).1 (up r))

  -- an affected node has a place
  pub affected_there : (key x : ℕ) → key < length nodes → IsAffectedLinkNode shown_edges key x
      → IsLinkHead s (get_or nodes x 0) × (get_or s.names (get_or nodes x 0) 0 ≡ x)
  affected_there key x l (inl q) =
      subst (λ z. IsLinkHead s (get_or nodes z 0) × (get_or s.names (get_or nodes z 0) 0 ≡ z)) (sym q)
      (links.places key l)
  affected_there key x l (inr (at_once h)) = has_place x _ h
    where
      has_place : (x y : ℕ) → HasLinkEdge shown_edges x y
          → IsLinkHead s (get_or nodes x 0) × (get_or s.names (get_or nodes x 0) 0 ≡ x)
      has_place x y h =
          let t = counted_link_edge_has_place s x y (length s.users) h in
          let n = links.head_of_name (user s t.place) (user_head t.place t.there t.edge.1) in
          links.places x (subst (λ z. z < length nodes) t.names_it.0 n.0)
  affected_there key x l (inr (further h r)) = has_place x _ h
    where
      has_place : (x y : ℕ) → HasLinkEdge shown_edges x y
          → IsLinkHead s (get_or nodes x 0) × (get_or s.names (get_or nodes x 0) 0 ≡ x)
      has_place x y h =
          let t = counted_link_edge_has_place s x y (length s.users) h in
          let n = links.head_of_name (user s t.place) (user_head t.place t.there t.edge.1) in
          links.places x (subst (λ z. z < length nodes) t.names_it.0 n.0)
