-- The edges of settled names after the first waiting name gets its own.
use Rattle.std.proofs.Common.{◌≡◌, ◌⊎◌, ◌↔◌, ◌<◌, ◌≤◌, ℕ, Bool, true, List, ◌∷◌, ◌++◌, length, map, max, Contains, Some}
use Rattle.std.proofs.Common.{get_or, refl, sym, ◌∙◌, ap, subst, inl, inr, arith}
use Rattle.std.specs.Prelude.{Err, Ok, OnErr, Result, Vec}
use Rattle.std.specs.declared.alloc.Global.{Global}
use Rattle.std.proofs.lemmas.Option.{slice_get-get_or}
use Rattle.std.proofs.lemmas.Bool.{cases_eq}
use Rattle.expr_tree.specs.declared.word_list.WordUse.{WordUse}
use Rattle.def_entry.specs.declared.key.Key.{Key}
use Rattle.deck.specs.Decks.{DeckContents}
use Rattle.deck.specs.Tables.{table_of_deck}
use Rattle.edge_links.specs.Edges.{link_edge, AreSameLinkEdges}
use Rattle.edge_links.specs.NameEdgeLaws.{AddedEdgesLaw}
use Rattle.edge_links.specs.NameGraphs.{NameEdgeGraph}
use Rattle.table_names.specs.EdgeLaws.{AreNumberedNameEdges}
use Rattle.table_names.specs.NumberedNames.{AreWords}
use Rattle.table_names.proofs.EdgeChanges.{edges_grown, edges_linked}
use Rattle.table_names.proofs.ReachedNumbers.{lead_of_step}
use Rattle.name_walk.specs.declared.step.Step.{Step}
use Rattle.name_walk.specs.declared.step.Step.TheVariants.{To}
use Rattle.name_walk.specs.ClosedNames.{IsSettledInGraph}
use Rattle.name_walk.specs.Steps.{GraphLeadsTo, graph_steps}
use Rattle.table_names.specs.ClosedKeys.{IsClosedKey}
use Rattle.table_names.specs.Leads.{TableNameLooksAt, TableWordsLeadTo}
use Rattle.table_names.specs.Words.{table_words_of_key}
use Rattle.live_table.specs.TableEdges.{HasLateSettledEdges, is_linked_settled_name}
use Rattle.live_table.specs.Sound.{HasCachedLooks, IsSoundLiveTable}
use Rattle.live_table.specs.TableContents.{NodeLists, NodeLooks, node_key_at, node_look_numbers, node_looks_of}
use Rattle.live_table.proofs.AfterForgetting.{settled_node_is_flagged}
use Rattle.live_table.proofs.OutcomesByKey.{key_settled, settled_within}
use Rattle.live_table.proofs.WaitingNames.{closed_destination_has_node_number, dead_end, linked_name_is_settled}
use Rattle.live_table.proofs.WaitingNames.{settled_name_not_waiting_is_linked, unfound_settled_is_not_waiting}
use Rattle.general_lemmas.proofs.Members.{member_first, member_later, member_cases}

-- the names to which the steps of a settled name lead
pub settled_target_is_within_keys : (deck : DeckContents) (l : NodeLists) (r : ℕ) (sound : IsSoundLiveTable deck l r)
    (n : ℕ)
    → IsSettledInGraph l.settled_flags n → (xs : List Step) → xs ≡ graph_steps l.graph n → (k : ℕ) → Contains xs (To k)
    → k < length l.keys
settled_target_is_within_keys deck l r sound n settled xs is k i =
    settled_within deck l r sound.numbers k ((sound.numbers.net.settled_right n settled).1 k
    (subst (λ (ys : List Step). Contains ys (To k)) is i))

-- ---- names are covered by the edges
module _ (deck : DeckContents) (l : NodeLists) (g h : NameEdgeGraph) (rest : h ≡ record g { names = h.names })
    (no_less : g.names ≤ h.names)
    (within : h.names ≤ max g.names (length l.keys)) where
  -- the edges are still those of the settled names
  pub covered_edges : (waiting : List ℕ) → HasLateSettledEdges deck l waiting g → HasLateSettledEdges deck l waiting h
  covered_edges waiting edges = record {
    names = let a = edges.names in omega (arith, a, within);
    edges_right = subst (λ (x : NameEdgeGraph). AreNumberedNameEdges (table_of_deck deck) (node_key_at l.keys) h.names
        now x) (sym rest)
        (renamed (edges_grown (table_of_deck deck) (node_key_at l.keys) (node_key_at l.keys) g.names h.names now now g
        edges.edges_right no_less (λ n t. refl) (λ n. ((λ e. e), (λ e. e)))));
    waiting_settled = edges.waiting_settled;
    targets_first = edges.targets_first;
  }
    where
      now : ℕ → Bool
      now = is_linked_settled_name l.settled_flags waiting

      renamed : AreNumberedNameEdges (table_of_deck deck) (node_key_at l.keys) h.names now g
          → AreNumberedNameEdges (table_of_deck deck) (node_key_at l.keys) h.names now (record g { names = h.names })
      renamed a = record {
        settled_in_range = a.settled_in_range;
        used_settled = a.used_settled;
        beside = a.beside;
        use_edges = a.use_edges;
        look_edges = a.look_edges;
      }

  -- the edges are still those of the settled names after a failure
  pub covered_on_err : {A E : Type 0} (k : NameEdgeGraph) → k ≡ h → (r : Result A E)
      → OnErr r ((waiting : List ℕ) → HasLateSettledEdges deck l waiting g → HasLateSettledEdges deck l waiting k)
  covered_on_err k same (Ok x) = tt
  covered_on_err k same (Err e) = λ waiting edges.
      subst (HasLateSettledEdges deck l waiting) (sym same) (covered_edges waiting edges)

-- ---- the first waiting name gets its edges
module _ (law : AddedEdgesLaw) (deck : DeckContents) (l : NodeLists) (r n : ℕ) (g h : NameEdgeGraph)
    (used looked rest : List ℕ)
    (sound : IsSoundLiveTable deck l r) (settled : IsSettledInGraph l.settled_flags n)
    (edges : HasLateSettledEdges deck l (n ∷ rest) g)
    (room : n < g.names)
    (names : h.names ≡ g.names) (uses : AreSameLinkEdges h.uses (map (link_edge n) used ++ g.uses))
    (looks : AreSameLinkEdges h.looks (map (link_edge n) looked ++ g.looks))
    (used_is : (m : ℕ) → Contains used m ↔ Contains (graph_steps l.graph n) (To m))
    (looked_is : looked ≡ node_looks_of l.looks n)
    (all_named : length l.keys ≤ g.names) where
  abbrev the_words : List WordUse
  the_words = table_words_of_key (table_of_deck deck) (node_key_at l.keys n)

  abbrev was : ℕ → Bool
  was = is_linked_settled_name l.settled_flags (n ∷ rest)

  abbrev now : ℕ → Bool
  now = is_linked_settled_name l.settled_flags rest

  words : AreWords (table_of_deck deck) (node_key_at l.keys) dead_end the_words (graph_steps l.graph n)
  words = sound.numbers.faithful n settled dead_end

  closed : IsClosedKey (table_of_deck deck) (node_key_at l.keys n)
  closed = sound.is_right.settled_closed (node_key_at l.keys n) (key_settled deck l r sound.numbers n settled)

  its_looks : HasCachedLooks (table_of_deck deck) l n
  its_looks = sound.numbers.settled_looks n settled

  below : (m : ℕ) → GraphLeadsTo l.graph n m → IsSettledInGraph l.settled_flags m
  below = (sound.numbers.net.settled_right n settled).1

  its_used : (k : Key) → TableWordsLeadTo (table_of_deck deck) the_words k ↔
      ((m : ℕ) × Contains used m × (k ≡ node_key_at l.keys m))
  its_used k = (
    λ w.
        let s = closed_destination_has_node_number deck l n closed (sound.numbers.faithful n settled) k w in
        (s.0, (used_is s.0).1 s.2, s.1),
    λ u. subst (λ (x : Key). TableWordsLeadTo (table_of_deck deck) the_words x) (sym u.2)
        (lead_of_step (table_of_deck deck) (node_key_at l.keys) dead_end the_words
        (graph_steps l.graph n) words u.0
        ((used_is u.0).0 u.1)),
  )

  look_in : (m : ℕ) → Contains looked m → Contains (node_looks_of l.looks n) m
  look_in m c = subst (λ (ns : List ℕ). Contains ns m) looked_is c

  in_look : (m : ℕ) → Contains (node_looks_of l.looks n) m → Contains looked m
  in_look m i = subst (λ (ns : List ℕ). Contains ns m) (sym looked_is) i

  its_looked : (k : Key) → TableNameLooksAt (table_of_deck deck) (node_key_at l.keys n) k
      ↔ ((m : ℕ) × (Contains used m ⊎ Contains looked m) × (k ≡ node_key_at l.keys m))
  its_looked k = (
    λ w.
        let s = (its_looks.looks.words_look k).0 w in
        (s.0, elim s.1 [ inl i ↦ inl ((used_is s.0).1 i) | inr i ↦ inr (in_look s.0 i) ], s.2),
    λ u. (its_looks.looks.words_look k).1
        (u.0, elim u.1 [ inl i ↦ inl ((used_is u.0).0 i) | inr i ↦ inr (look_in u.0 i) ], u.2),
  )

  marks : (m : ℕ) → (now m ≡ true) ↔ ((m ≡ n) ⊎ (was m ≡ true))
  marks m = (from (cases_eq m n), to)
    where
      from : (m ≡ n) ⊎ (m ≡ n → ⊥) → now m ≡ true → (m ≡ n) ⊎ (was m ≡ true)
      from (inl e) f = inl e
      from (inr ne) f =
          let p = linked_name_is_settled l.settled_flags rest m f in
          inr (settled_name_not_waiting_is_linked l.settled_flags (n ∷ rest) m p.0
          (λ i. elim (member_cases m n rest i) [ inl e ↦ ne e | inr j ↦ unfound_settled_is_not_waiting rest m p.1 j ]))

      own : now n ≡ true
      own = settled_name_not_waiting_is_linked l.settled_flags rest n
          (settled_node_is_flagged l.settled_flags n settled) edges.targets_first.1

      to : (m ≡ n) ⊎ (was m ≡ true) → now m ≡ true
      to (inl e) = subst (λ x. now x ≡ true) (sym e) own
      to (inr f) =
          let p = linked_name_is_settled l.settled_flags (n ∷ rest) m f in
          settled_name_not_waiting_is_linked l.settled_flags rest m p.0
          (λ i. unfound_settled_is_not_waiting (n ∷ rest) m p.1 (member_later m n rest i))

  not_before : was n ≡ true → ⊥
  not_before e = unfound_settled_is_not_waiting (n ∷ rest) n (linked_name_is_settled l.settled_flags (n ∷ rest) n e).1
      (member_first n n rest refl)

  -- the names to which the words of the first waiting name lead are not waiting
  target_linked : (m : ℕ) → Contains used m → was m ≡ true
  target_linked m c =
      let way = (used_is m).0 c in
      settled_name_not_waiting_is_linked l.settled_flags (n ∷ rest) m
      (settled_node_is_flagged l.settled_flags m (below m way))
      (λ i. edges.targets_first.0 m i
      (lead_of_step (table_of_deck deck) (node_key_at l.keys) dead_end the_words
      (graph_steps l.graph n) words m way))

  -- the first waiting name has its edges, and the others still wait
  pub linked_edges : HasLateSettledEdges deck l rest h
  linked_edges = record {
    names = let a = edges.names in omega (arith, a, names);
    edges_right = subst (λ size. AreNumberedNameEdges (table_of_deck deck) (node_key_at l.keys) size now h) (sym names)
        (edges_linked (table_of_deck deck) (node_key_at l.keys) g.names was now g h n used looked
        edges.edges_right room not_before marks
        (law n used g.uses h.uses uses) (law n looked g.looks h.looks looks)
        target_linked
        (λ m i. let s = its_looks.looks.seen_in_table m (look_in m i) in omega (arith, s, all_named))
        its_used its_looked);
    waiting_settled = λ m i. edges.waiting_settled m (member_later m n rest i);
    targets_first = edges.targets_first.2;
  }

-- ---- the values that the call reads
pub read_looks_are_node_looks : (looks : NodeLooks) (n : ℕ) (v : Vec ℕ Global) → n < length looks → v ≡ get_or looks n v
    → v.items ≡ node_looks_of looks n
read_looks_are_node_looks looks n v l e = sym (ap node_look_numbers (slice_get-get_or looks n v l ∙ ap Some (sym e)))
