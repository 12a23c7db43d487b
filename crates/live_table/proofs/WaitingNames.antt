-- Names that wait for their edges: after names are added, after one more is settled, and if none waits.
use Rattle.std.proofs.Common.{◌≡◌, ◌⊎◌, ◌↔◌, ◌<◌, ◌≤◌, ℕ, Bool, true, false, List, [], ◌∷◌, ◌++◌, length, set}
use Rattle.std.proofs.Common.{Option, Some, is_some, refl, sym, ◌∙◌, ap, subst, inl, inr, arith, Contains}
use Rattle.std.specs.FinMap as map_of
use Rattle.std.specs.Prelude.{if◌then◌else◌}
use Rattle.std.proofs.lemmas.Bool.{cases_Bool, cases_lt, true≢false}
use Rattle.std.proofs.lemmas.List.Elements.{Contains-append_left, Contains-push, Contains-push_cases}
use Rattle.std.proofs.lemmas.Option.{slice_get_within}
use Rattle.expr_tree.specs.declared.word_list.WordUse.{WordUse}
use Rattle.def_entry.specs.declared.key.Key.{Key}
use Rattle.def_entry.specs.Tables.{EntryTable}
use Rattle.deck.specs.Decks.{DeckContents}
use Rattle.deck.specs.Tables.{table_of_deck}
use Rattle.edge_links.specs.NameGraphs.{NameEdgeGraph}
use Rattle.table_names.proofs.EdgeChanges.{edges_grown}
use Rattle.table_names.proofs.ReachedNumbers.{step_of_lead}
use Rattle.name_walk.specs.declared.step.Step.TheVariants.{To}
use Rattle.name_walk.specs.ClosedNames.{IsSettledInGraph}
use Rattle.name_walk.specs.Faults.{is_on_path}
use Rattle.name_walk.specs.Steps.{graph_steps}
use Rattle.name_walk.proofs.Members.{member_on_path, on_path_member}
use Rattle.table_names.specs.declared.fault.NameFault.{NameFault}
use Rattle.table_names.specs.declared.fault.NameFault.TheVariants.{Unknown}
use Rattle.table_names.specs.ClosedKeys.{IsClosedKey}
use Rattle.table_names.specs.Leads.{TableWordsLeadTo}
use Rattle.table_names.specs.Words.{table_words_of_key}
use Rattle.table_names.proofs.ClosedLaws.{closed_word_law}
use Rattle.tree_eval.specs.declared.outcome.Outcome.{Outcome}
use Rattle.live_table.specs.declared.callee.Callee.{Callee}
use Rattle.live_table.specs.declared.dead_end.DeadEnd.{DeadEnd}
use Rattle.live_table.specs.declared.late_edges.LateEdges.{LateEdges}
use Rattle.live_table.specs.Due.{IsDueToBeSettled, nodes_with_settled_outcome}
use Rattle.live_table.specs.TableEdges.{AreTargetsSettledFirst, HasLateSettledEdges, HasSettledEdges, IsLinkedLiveTable}
use Rattle.live_table.specs.TableEdges.{IsLive, is_flagged_settled, is_linked_settled_name}
use Rattle.live_table.specs.Exploration.{AreNodesGrown}
use Rattle.live_table.specs.Sound.{IsFaithfulNode, IsSoundLiveTable}
use Rattle.live_table.specs.States.{CachedOutcomes}
use Rattle.live_table.specs.TableContents.{NodeLists, cached_outcomes_of, no_nodes, node_key_at}
use Rattle.live_table.proofs.AfterForgetting.{flagged_node_is_settled, settled_node_is_flagged}
use Rattle.live_table.proofs.AddedNames.{exploration_growth_is_no_shorter, node_key_stays_in_growth}
use Rattle.live_table.proofs.OutcomesByKey.{key_settled, key_without_node_is_not_cached, number_settled, settled_within}
use Rattle.general_lemmas.proofs.Places.{get_set_same, get_set_other}
use Rattle.general_lemmas.proofs.Members.{no_member, member_first, member_later, member_cases}

-- ---- a name has its edges if it is settled and does not wait
settled_unless_waiting : (b f : Bool) → (if b then false else f) ≡ true → (f ≡ true) × (b ≡ false)
settled_unless_waiting true f e = absurd (true≢false (sym e))
settled_unless_waiting false f e = (e, refl)

-- a name with its edges is settled, and does not wait
pub linked_name_is_settled : (settled : List Bool) (waiting : List ℕ) (n : ℕ)
    → is_linked_settled_name settled waiting n ≡ true
    → (is_flagged_settled settled n ≡ true) × (is_on_path waiting n ≡ false)
linked_name_is_settled settled waiting n e = settled_unless_waiting (is_on_path waiting n)
    (is_flagged_settled settled n) e

-- a number that is not found on a list is not in it
pub unfound_settled_is_not_waiting : (waiting : List ℕ) (n : ℕ) → is_on_path waiting n ≡ false → Contains waiting n → ⊥
unfound_settled_is_not_waiting waiting n e i = true≢false (sym (member_on_path waiting n i) ∙ e)

-- a settled name that does not wait has its edges
pub settled_name_not_waiting_is_linked : (settled : List Bool) (waiting : List ℕ) (n : ℕ)
    → is_flagged_settled settled n ≡ true
    → (Contains waiting n → ⊥)
    → is_linked_settled_name settled waiting n ≡ true
settled_name_not_waiting_is_linked settled waiting n e out = elim (cases_Bool (is_on_path waiting n)) [
  | inl i ↦ absurd (out (on_path_member waiting n i))
  | inr o ↦ ap (λ b. if b then false else is_flagged_settled settled n) o ∙ e
]

-- ---- the names to which the words of a closed name lead are among its steps
pub dead_end : ℕ → Option Key → NameFault
dead_end t holder = Unknown [] holder

-- the names to which the words of a closed name lead, by number
pub closed_destination_has_node_number : (deck : DeckContents) (l : NodeLists) (n : ℕ)
    → IsClosedKey (table_of_deck deck)
    (node_key_at l.keys n)
    → IsFaithfulNode (table_of_deck deck) l n → (k : Key) → TableWordsLeadTo (table_of_deck deck)
    (table_words_of_key (table_of_deck deck) (node_key_at l.keys n)) k
    → (m : ℕ) × (k ≡ node_key_at l.keys m) × Contains (graph_steps l.graph n) (To m)
closed_destination_has_node_number deck l n closed faithful k w =
    let us : List WordUse = table_words_of_key (table_of_deck deck) (node_key_at l.keys n) in
    let fine = ((closed_word_law.words (table_of_deck deck) us).0
    ((closed_word_law.key (table_of_deck deck) (node_key_at l.keys n)).0 closed) w.0 w.1).not_refused in
    step_of_lead (table_of_deck deck) (node_key_at l.keys) dead_end us (graph_steps l.graph n)
    (faithful dead_end) w.0
    w.1 fine k w.2

-- ---- the order in which names wait
module _ (t : EntryTable) where
  same_order : (key later : ℕ → Key) (ns : List ℕ) → ((n : ℕ) → Contains ns n → later n ≡ key n)
      → AreTargetsSettledFirst t key ns
      → AreTargetsSettledFirst t later ns
  same_order key later [] same o = o
  same_order key later (n ∷ ns) same o = (
    λ m i w. o.0 m i (subst (λ (p : Key × Key). TableWordsLeadTo t (table_words_of_key t p.0) p.1)
        (λ j. (same n (member_first n n ns refl) j, same m i j)) w),
    o.1,
    same_order key later ns (λ m i. same m (member_later m n ns i)) o.2,
  )

  push_order : (key : ℕ → Key) (ns : List ℕ) (n : ℕ) → AreTargetsSettledFirst t key ns → (Contains ns n → ⊥)
      → ((m : ℕ) → Contains ns m → TableWordsLeadTo t (table_words_of_key t (key m)) (key n) → ⊥)
      → (TableWordsLeadTo t (table_words_of_key t (key n)) (key n) → ⊥) → AreTargetsSettledFirst t key (ns ++ n ∷ [])
  push_order key [] n o out before own = (
    λ m i w. elim (member_cases m n [] i) [
      | inl e ↦ own (subst (λ x. TableWordsLeadTo t (table_words_of_key t (key n)) (key x)) e w)
      | inr j ↦ no_member m j
    ],
    λ i. no_member n i,
    tt,
  )
  push_order key (q ∷ ns) n o out before own = (
    λ m i w. elim (Contains-push_cases (q ∷ ns) n m i) [
      | inl j ↦ o.0 m j w
      | inr e ↦ before q (member_first q q ns refl)
          (subst (λ x. TableWordsLeadTo t (table_words_of_key t (key q)) (key x)) (sym e) w)
    ],
    λ i. elim (Contains-push_cases ns n q i) [ inl j ↦ o.1 j | inr e ↦ out (member_first n q ns e) ],
    push_order key ns n o.2 (λ i. out (member_later n q ns i)) (λ m i. before m (member_later m q ns i)) own,
  )

-- ---- names are added
module _ (deck : DeckContents) (l m : NodeLists) (before here there : List ℕ) (ends more : List DeadEnd) (r : ℕ)
    (grown : AreNodesGrown (table_of_deck deck) l m before here there ends more) (sound : IsSoundLiveTable deck l r)
  where
    not_new : (n : ℕ) → IsSettledInGraph m.settled_flags n → length l.keys ≤ n → ⊥
    not_new n e s =
        let now : is_some (map_of.get (cached_outcomes_of m.keys m.outcomes) (node_key_at m.keys n)) ≡ true =
        key_settled deck m r grown.nodes n e in
        let none = key_without_node_is_not_cached l.keys l.outcomes (node_key_at m.keys n) other in
        true≢false (sym now ∙ (ap (λ (k : CachedOutcomes). is_some (map_of.get k (node_key_at m.keys n)))
        grown.same_outcomes
        ∙ ap is_some none))
      where
        inside : n < length m.keys
        inside = settled_within deck m r grown.nodes n e

        other : (i : ℕ) → i < length l.keys → node_key_at m.keys n ≡ node_key_at l.keys i → ⊥
        other i t q =
            let same : node_key_at m.keys i ≡ node_key_at l.keys i =
            node_key_stays_in_growth l.keys m.keys i grown.keys_more t in
            let z : n ≡ i = grown.nodes.numbers_apart n i inside (omega (arith, t, s, inside)) (q ∙ sym same) in
            omega (arith, t, s, z)

    settled_before : (n : ℕ) → IsSettledInGraph m.settled_flags n → IsSettledInGraph l.settled_flags n
    settled_before n e = elim (cases_lt n (length l.keys)) [
      | inr s ↦ absurd (not_new n e s)
      | inl t ↦ number_settled deck l r sound.numbers n t
          (subst (λ (k : Key). is_some (map_of.get (cached_outcomes_of l.keys l.outcomes) k) ≡ true)
          (node_key_stays_in_growth l.keys m.keys n grown.keys_more t)
          (ap (λ (k : CachedOutcomes). is_some (map_of.get k (node_key_at m.keys n))) (sym grown.same_outcomes)
          ∙ key_settled deck m r grown.nodes n e))
    ]

    module _ (waiting : List ℕ) where
      linked_now : (n : ℕ) → (is_linked_settled_name m.settled_flags waiting n ≡ true) ↔
          (is_linked_settled_name l.settled_flags waiting n ≡ true)
      linked_now n = (
        λ e.
            let p = linked_name_is_settled m.settled_flags waiting n e in
            settled_name_not_waiting_is_linked l.settled_flags waiting n
            (settled_node_is_flagged l.settled_flags n
            (settled_before n (flagged_node_is_settled m.settled_flags n p.0)))
            (unfound_settled_is_not_waiting waiting n p.1),
        λ e.
            let p = linked_name_is_settled l.settled_flags waiting n e in
            settled_name_not_waiting_is_linked m.settled_flags waiting n
            (settled_node_is_flagged m.settled_flags n
            (grown.settled_still n (flagged_node_is_settled l.settled_flags n p.0)))
            (unfound_settled_is_not_waiting waiting n p.1),
      )

      -- the edges are still those of the settled names
      pub grown_edges : (g : NameEdgeGraph) → HasLateSettledEdges deck l waiting g
          → HasLateSettledEdges deck m waiting g
      grown_edges g edges = record {
        names = let a = edges.names in let b = exploration_growth_is_no_shorter l.keys m.keys grown.keys_more in
            omega (arith, a, b);
        edges_right = edges_grown (table_of_deck deck) (node_key_at l.keys) (node_key_at m.keys) g.names g.names
            (is_linked_settled_name l.settled_flags waiting)
            (is_linked_settled_name m.settled_flags waiting) g edges.edges_right (omega arith)
            (λ n t. node_key_stays_in_growth l.keys m.keys n grown.keys_more
            (let a = edges.names in omega (arith, t, a)))
            linked_now;
        waiting_settled = λ n i. grown.settled_still n (edges.waiting_settled n i);
        targets_first = same_order (table_of_deck deck) (node_key_at l.keys) (node_key_at m.keys) waiting
            (λ n i. node_key_stays_in_growth l.keys m.keys n grown.keys_more
            (settled_within deck l r sound.numbers n (edges.waiting_settled n i)))
            edges.targets_first;
      }

-- ---- one more name is settled, and waits
module _ (deck : DeckContents) (l : NodeLists) (r n : ℕ) (sound : IsSoundLiveTable deck l r)
    (due : IsDueToBeSettled (table_of_deck deck) l n) where
  fresh : IsSettledInGraph l.settled_flags n → ⊥
  fresh s = let z : Some false ≡ Some true = sym due.still_unsettled ∙ s in cc

  -- the key of a settled number is not that of the new name
  not_own : (m : ℕ) → IsSettledInGraph l.settled_flags m → node_key_at l.keys n ≡ node_key_at l.keys m → ⊥
  not_own m s e =
      let same : n ≡ m = sound.numbers.numbers_apart n m due.in_table (settled_within deck l r sound.numbers m s) e in
      fresh (subst (IsSettledInGraph l.settled_flags) (sym same) s)

  -- neither a settled name nor the new name leads to the new name
  not_led : (m : ℕ) → IsSettledInGraph l.settled_flags m
      → TableWordsLeadTo (table_of_deck deck) (table_words_of_key (table_of_deck deck) (node_key_at l.keys m))
      (node_key_at l.keys n) → ⊥
  not_led m s w =
      let closed = sound.is_right.settled_closed (node_key_at l.keys m) (key_settled deck l r sound.numbers m s) in
      let q = closed_destination_has_node_number deck l m closed (sound.numbers.faithful m s)
      (node_key_at l.keys n) w in
      not_own q.0 ((sound.numbers.net.settled_right m s).1 q.0 q.2) q.1

  not_self : TableWordsLeadTo (table_of_deck deck) (table_words_of_key (table_of_deck deck) (node_key_at l.keys n))
      (node_key_at l.keys n) → ⊥
  not_self w =
      let q = closed_destination_has_node_number deck l n due.key_closed due.faithful (node_key_at l.keys n) w in
      not_own q.0 (due.targets_settled q.0 q.2) q.1

  module _ (waiting : List ℕ) (g : NameEdgeGraph) (edges : HasLateSettledEdges deck l waiting g) where
    abbrev now : List Bool
    now = set l.settled_flags n true

    abbrev more : List ℕ
    more = waiting ++ n ∷ []

    out : Contains waiting n → ⊥
    out i = fresh (edges.waiting_settled n i)

    same_links : (m : ℕ) → (is_linked_settled_name now more m ≡ true) ↔
        (is_linked_settled_name l.settled_flags waiting m ≡ true)
    same_links m = (from, to)
      where
        from : is_linked_settled_name now more m ≡ true → is_linked_settled_name l.settled_flags waiting m ≡ true
        from e =
            let p = linked_name_is_settled now more m e in
            let off : Contains more m → ⊥ = unfound_settled_is_not_waiting more m p.1 in
            let other : m ≡ n → ⊥ = λ q. off (subst (λ x. Contains more x) (sym q) (Contains-push waiting n)) in
            settled_name_not_waiting_is_linked l.settled_flags waiting m
            (settled_node_is_flagged l.settled_flags m (sym (get_set_other l.settled_flags n m true other)
            ∙ flagged_node_is_settled now m p.0))
            (λ i. off (Contains-append_left waiting (n ∷ []) m i))

        to : is_linked_settled_name l.settled_flags waiting m ≡ true → is_linked_settled_name now more m ≡ true
        to e =
            let p = linked_name_is_settled l.settled_flags waiting m e in
            let was : IsSettledInGraph l.settled_flags m = flagged_node_is_settled l.settled_flags m p.0 in
            let other : m ≡ n → ⊥ = λ q. fresh (subst (IsSettledInGraph l.settled_flags) q was) in
            settled_name_not_waiting_is_linked now more m
            (settled_node_is_flagged now m (get_set_other l.settled_flags n m true other ∙ was))
            (λ i. elim (Contains-push_cases waiting n m i)
            [ inl j ↦ unfound_settled_is_not_waiting waiting m p.1 j | inr q ↦ other (sym q) ])

    settled_more : (m : ℕ) → Contains waiting m ⊎ (n ≡ m) → IsSettledInGraph now m
    settled_more m (inl i) =
        let was : IsSettledInGraph l.settled_flags m = edges.waiting_settled m i in
        get_set_other l.settled_flags n m true (λ q. fresh (subst (IsSettledInGraph l.settled_flags) q was)) ∙ was
    settled_more m (inr e) =
        subst (IsSettledInGraph now) e
        (get_set_same l.settled_flags n true (slice_get_within l.settled_flags n false due.still_unsettled))

    -- the edges are still those of the other names
    still_waiting_edges : (o : Outcome) (c : Callee) → HasLateSettledEdges deck (nodes_with_settled_outcome n o c l)
        (waiting ++ n ∷ []) g
    still_waiting_edges o c = record {
      names = edges.names;
      edges_right = edges_grown (table_of_deck deck) (node_key_at l.keys) (node_key_at l.keys) g.names g.names
          (is_linked_settled_name l.settled_flags waiting)
          (is_linked_settled_name now more) g edges.edges_right (omega arith) (λ m t. refl) same_links;
      waiting_settled = λ m i. settled_more m (Contains-push_cases waiting n m i);
      targets_first = push_order (table_of_deck deck) (node_key_at l.keys) waiting n edges.targets_first out
          (λ m i. not_led m (edges.waiting_settled m i)) not_self;
    }

    -- the same of equal nodes, and of an equal list of waiting names
    pub waiting_edges : (m : NodeLists)
        → ((o : Outcome) × (c : Callee) × (m ≡ nodes_with_settled_outcome n o c l))
        → (list : List ℕ) → list ≡ waiting ++ n ∷ [] → HasLateSettledEdges deck m list g
    waiting_edges m settled list pushed =
        subst (λ (p : NodeLists × List ℕ). HasLateSettledEdges deck p.0 p.1 g)
        (λ i. (sym settled.2 i, sym pushed i)) (still_waiting_edges settled.0 settled.1)

-- ---- at the start
no_nodes_have_no_late_edges : (deck : DeckContents) → HasLateSettledEdges deck no_nodes []
    (record { names = 0; uses = []; looks = [] })
no_nodes_have_no_late_edges deck = record {
  names = omega arith;
  edges_right = record {
    settled_in_range = λ n e. absurd (none n e);
    used_settled = λ n m e. absurd (omega (arith, e));
    beside = λ n m e. absurd (omega (arith, e));
    use_edges = λ n e k. absurd (none n e);
    look_edges = λ n e k. absurd (none n e);
  };
  waiting_settled = λ n i. absurd (no_member n i);
  targets_first = tt;
}
  where
    none : (n : ℕ) → is_linked_settled_name [] [] n ≡ true → ⊥
    none n e = true≢false (sym e)

-- without names the edges are right
pub live_table_starts_without_edges : (deck : DeckContents) (l : NodeLists) (waiting : List ℕ) (g : NameEdgeGraph)
    → l ≡ no_nodes → waiting ≡ []
    → g ≡ record { names = 0; uses = []; looks = [] } → HasLateSettledEdges deck l waiting g
live_table_starts_without_edges deck l waiting g e w f =
    subst (λ (p : NodeLists × List ℕ × NameEdgeGraph). HasLateSettledEdges deck p.0 p.1 p.2)
    (λ i. (sym e i, sym w i, sym f i))
    (no_nodes_have_no_late_edges deck)

-- ---- if no name waits, all have their edges
pub live_table_is_linked : (deck : DeckContents) (l : NodeLists) (e : LateEdges) (r : ℕ) → e.waiting.items ≡ []
    → IsLive deck l e r
    → IsLinkedLiveTable deck l e.made r
live_table_is_linked deck l e r none live =
    let all = subst (λ (ns : List ℕ). HasLateSettledEdges deck l ns e.made) none live.edges in
    record { is_sound = live.is_sound; edges = record { names = all.names; edges_right = all.edges_right } }

-- if all names have their edges, none waits
pub settled_edges_are_not_late : (deck : DeckContents) (l : NodeLists) (waiting : List ℕ) (g : NameEdgeGraph)
    → waiting ≡ []
    → HasSettledEdges deck l g → HasLateSettledEdges deck l waiting g
settled_edges_are_not_late deck l waiting g none edges =
    subst (λ (ns : List ℕ). HasLateSettledEdges deck l ns g) (sym none)
    (record {
      names = edges.names;
      edges_right = edges.edges_right;
      waiting_settled = λ n i. absurd (no_member n i);
      targets_first = tt;
    })
