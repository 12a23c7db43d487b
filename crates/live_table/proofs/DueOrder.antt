-- In the order of a walk each name is due once those before it are settled.
use Rattle.std.proofs.Common.{◌≡◌, ◌<◌, ℕ, zero, suc, Bool, true, false, List, [], ◌∷◌, ◌++◌, set, length, Option}
use Rattle.std.proofs.Common.{Some, nat_eq, option_map, refl, sym, ◌∙◌, ap, subst, inl, inr, arith, Contains}
use Rattle.std.specs.List.{IsDistinct, slice_get}
use Rattle.std.proofs.lemmas.Bool.{cases_eq, eq-eqb}
use Rattle.std.proofs.lemmas.List.{length-set}
use Rattle.std.proofs.lemmas.List.Elements.{Contains-append_right, Contains-push_cases}
use Rattle.expr_tree.specs.declared.word_list.WordUse.{WordUse}
use Rattle.def_entry.specs.declared.key.Key.{Key}
use Rattle.def_entry.specs.Tables.{EntryTable, entry_at, is_entry_present}
use Rattle.name_walk.specs.declared.step.Step.{Step}
use Rattle.name_walk.specs.declared.step.Step.TheVariants.{Nowhere}
use Rattle.name_walk.specs.ClosedNames as walk
use Rattle.name_walk.specs.ClosedNames.{IsSettledInGraph, IsSettledOrWalked, WalksEndWithin}
use Rattle.name_walk.specs.NewlyClosed.{AreNewlyClosedByWalk, AreOrderedInGraph, IsReachedInGraph}
use Rattle.name_walk.specs.Steps.{Graph, GraphLeadsTo, GraphReaches, at_once, further, graph_steps}
use Rattle.name_walk.proofs.ClosedPaths.{closed_graph_name_law_holds}
use Rattle.name_walk.proofs.Lists.{all_at}
use Rattle.tree_eval.specs.declared.outcome.Outcome.{Outcome}
use Rattle.table_names.specs.declared.fault.NameFault.{NameFault}
use Rattle.table_names.specs.ClosedKeys.{IsClosedKey}
use Rattle.table_names.specs.Words.{table_words_of_key}
use Rattle.table_names.specs.NumberedFaultLaws.{NumberedNameFaultLaw}
use Rattle.table_names.specs.NumberedNames.{AreWords, ForOne, ForRefused, ForTwo, ForUnknown, IsWord}
use Rattle.table_names.specs.NumberedNames.{LeadToKnownNumbers, fault_by_name}
use Rattle.live_table.specs.declared.callee.Callee.{Callee}
use Rattle.live_table.specs.declared.dead_end.DeadEnd.{DeadEnd}
use Rattle.live_table.specs.Due.{AreDueToBeSettled, IsDueToBeSettled, nodes_with_settled_outcome}
use Rattle.live_table.specs.ExploredNames.{AreExplored, explored_fault_at}
use Rattle.live_table.specs.Looks.{AreNodeLooks}
use Rattle.live_table.specs.Sound.{AreSoundNodes, HasCachedLooks, HasCachedPartStarts, IsFaithfulNode}
use Rattle.live_table.specs.TableContents.{NodeLists, NodeLooks, node_key_at, node_looks_of}
use Rattle.general_lemmas.proofs.Places.{get_set_same, get_set_other}
use Rattle.general_lemmas.proofs.Members.{no_member, member_first, member_later}

-- ---- steps that all lead somewhere are those of their words, whatever the dead ends
module _ (t : EntryTable) (key : ℕ → Key) (one other : ℕ → Option Key → NameFault) where
  any_word : (u : WordUse) (x y : Step) → ((b : ℕ) → x ≡ Nowhere b → ⊥) → IsWord t key one u x y
      → IsWord t key other u x y
  any_word u x y h (ForRefused b is e) = absurd (h b refl)
  any_word u x y h (ForUnknown b fine none e) = absurd (h b refl)
  any_word u x y h (ForOne n fine e) = ForOne n fine e
  any_word u x y h (ForTwo n m fine e) = ForTwo n m fine e

  pub any_words : (us : List WordUse) (xs : List Step) → ((b : ℕ) → Contains xs (Nowhere b) → ⊥)
      → AreWords t key one us xs
      → AreWords t key other us xs
  any_words [] [] h w = w
  any_words [] (x ∷ xs) h w = absurd w
  any_words (u ∷ us) [] h w = absurd w
  any_words (u ∷ us) (x ∷ []) h w = absurd w
  any_words (u ∷ us) (x ∷ y ∷ xs) h w = (
    any_word u x y (λ b e. h b (member_first (Nowhere b) x (y ∷ xs) (sym e))) w.0,
    any_words us xs (λ b i. h b (Contains-append_right (x ∷ y ∷ []) xs (Nowhere b) i)) w.1,
  )

-- a closed name has no step that leads nowhere
closed_node_has_no_dead_end : (g : Graph) (k n b : ℕ) → WalksEndWithin g k n → Contains (graph_steps g n) (Nowhere b)
    → ⊥
closed_node_has_no_dead_end g zero n b e i = e
closed_node_has_no_dead_end g (suc k) n b e i = all_at (walk.WalkStepLeadsInto (WalksEndWithin g k)) (graph_steps g n)
    (Nowhere b) e i

-- ---- the facts known about each name of an order
record IsReady (t : EntryTable) (l : NodeLists) (n : ℕ) : Type 0 where
  pub within : n < length l.keys
  pub present : is_entry_present t (node_key_at l.keys n) ≡ true
  pub closed : IsClosedKey t (node_key_at l.keys n)
  pub ends : walk.IsClosedInGraph l.graph n
  pub faithful : IsFaithfulNode t l n
  pub starts : HasCachedPartStarts t l n
  pub looks : HasCachedLooks t l n

-- some names of an order are settled, in the same nodes
record AreSettledFirst (l now : NodeLists) (before later : List ℕ) : Type 0 where
  pub keys : now.keys ≡ l.keys
  pub graph : now.graph ≡ l.graph
  pub looks : now.looks ≡ l.looks
  pub size : length now.settled_flags ≡ length l.keys
  pub done : (m : ℕ) → IsSettledOrWalked l.settled_flags before m → IsSettledInGraph now.settled_flags m
  pub fresh : (m : ℕ) → Contains later m → IsSettledInGraph now.settled_flags m → ⊥
  pub callees : (m : ℕ) → Contains later m → slice_get now.callees m ≡ slice_get l.callees m

-- a number that is not settled has a mark that is not set
unsettled_number_has_clear_flag : (bs : List Bool) (m : ℕ) → m < length bs → (slice_get bs m ≡ Some true → ⊥)
    → slice_get bs m ≡ Some false
unsettled_number_has_clear_flag [] m h f = absurd (omega arith)
unsettled_number_has_clear_flag (true ∷ bs) zero h f = absurd (f refl)
unsettled_number_has_clear_flag (false ∷ bs) zero h f = refl
unsettled_number_has_clear_flag (b ∷ bs) (suc m) h f = unsettled_number_has_clear_flag bs m (omega arith) f

module _ (t : EntryTable) (l : NodeLists) where
  one_due : (now : NodeLists) (before ns : List ℕ) (n : ℕ) → IsReady t l n → AreSettledFirst l now before (n ∷ ns)
      → ((m : ℕ) → GraphLeadsTo l.graph n m → IsSettledOrWalked l.settled_flags before m) → IsDueToBeSettled t now n
  one_due now before ns n r s below = record {
    in_table = inside;
    still_unsettled = unsettled_number_has_clear_flag now.settled_flags n
        (let a : length now.settled_flags ≡ length l.keys = s.size in
        let b : n < length l.keys = r.within in omega arith) (s.fresh n (member_first n n ns refl));
    key_has_entry = subst (λ (ks : List Key). is_entry_present t (node_key_at ks n) ≡ true) (sym s.keys) r.present;
    key_closed = subst (λ (ks : List Key). IsClosedKey t (node_key_at ks n)) (sym s.keys) r.closed;
    name_closed = subst (λ (g : Graph). walk.IsClosedInGraph g n) (sym s.graph) r.ends;
    targets_settled = λ m h. s.done m (below m (subst (λ (g : Graph). GraphLeadsTo g n m) s.graph h));
    faithful = λ ends.
        subst (λ (p : List Key × Graph). AreWords t (node_key_at p.0) ends (table_words_of_key t (node_key_at p.0 n))
        (graph_steps p.1 n))
        (λ j. (sym s.keys j, sym s.graph j)) (r.faithful ends);
    part_starts = λ e c at is. r.starts e c (ap (λ (ks : List Key). entry_at t (node_key_at ks n)) (sym s.keys) ∙ at)
        (sym (s.callees n (member_first n n ns refl)) ∙ is);
    looks = record {
      looks = subst (λ (p : List Key × (Graph × NodeLooks)).
          AreNodeLooks t p.0 (table_words_of_key t (node_key_at p.0 n)) (graph_steps p.1.0 n)
          (node_looks_of p.1.1 n))
          (λ j. (sym s.keys j, (sym s.graph j, sym s.looks j))) r.looks.looks;
      numbers_distinct = subst (λ (g : NodeLooks). IsDistinct nat_eq (node_looks_of g n))
          (sym s.looks) r.looks.numbers_distinct;
    };
  }
    where
      inside : n < length now.keys
      inside = let a : length now.keys ≡ length l.keys = ap length s.keys in let b : n < length l.keys = r.within in
          omega arith

  -- one more name is settled
  next : (now : NodeLists) (before ns : List ℕ) (n : ℕ) (o : Outcome) (c : Callee) → n < length l.keys
      → AreSettledFirst l now before (n ∷ ns)
      → ((m : ℕ) → Contains ns m → m ≡ n → ⊥) → AreSettledFirst l (nodes_with_settled_outcome n o c now)
      (before ++ n ∷ []) ns
  next now before ns n o c h s apart = record {
    keys = s.keys;
    graph = s.graph;
    looks = s.looks;
    size = length-set now.settled_flags n true ∙ s.size;
    done = done;
    fresh = λ m i e. s.fresh m (member_later m n ns i) (sym (get_set_other now.settled_flags n m true (apart m i)) ∙ e);
    callees = λ m i. get_set_other now.callees n m c (apart m i) ∙ s.callees m (member_later m n ns i);
  }
    where
      own : IsSettledInGraph (set now.settled_flags n true) n
      own = get_set_same now.settled_flags n true
          (let a : length now.settled_flags ≡ length l.keys = s.size in omega arith)

      still : (m : ℕ) → IsSettledInGraph now.settled_flags m → IsSettledInGraph (set now.settled_flags n true) m
      still m e = elim (cases_eq m n) [
        | inl q ↦ subst (λ (x : ℕ). IsSettledInGraph (set now.settled_flags n true) x) (sym q) own
        | inr ne ↦ get_set_other now.settled_flags n m true ne ∙ e
      ]

      done : (m : ℕ) → IsSettledOrWalked l.settled_flags (before ++ n ∷ []) m
          → IsSettledInGraph (set now.settled_flags n true) m
      done m (inl e) = still m (s.done m (inl e))
      done m (inr i) = elim (Contains-push_cases before n m i) [
        | inl j ↦ still m (s.done m (inr j))
        | inr q ↦ subst (λ (x : ℕ). IsSettledInGraph (set now.settled_flags n true) x) q own
      ]

  apart_from : (n : ℕ) (ns : List ℕ) → IsDistinct nat_eq (n ∷ ns) → (m : ℕ) → Contains ns m → m ≡ n → ⊥
  unfolding IsDistinct
  apart_from n ns d m i q =
      let f : nat_eq n m ≡ false = all_at (λ y. nat_eq n y ≡ false) ns m d.0 i in
      let e : nat_eq n m ≡ true = eq-eqb n m (sym q) in
      let z : true ≡ false = sym e ∙ f in cc

  later_once : (n : ℕ) (ns : List ℕ) → IsDistinct nat_eq (n ∷ ns) → IsDistinct nat_eq ns
  unfolding IsDistinct
  later_once n ns d = d.1

  due_from : (ns before : List ℕ) (now : NodeLists) → ((n : ℕ) → Contains ns n → IsReady t l n)
      → AreOrderedInGraph l.graph l.settled_flags before ns
      → IsDistinct nat_eq ns → AreSettledFirst l now before ns → AreDueToBeSettled t now ns
  due_from [] before now r o d s = tt
  due_from (n ∷ ns) before now r o d s = (
    one_due now before ns n (r n (member_first n n ns refl)) s o.0,
    λ out c. due_from ns (before ++ n ∷ []) (nodes_with_settled_outcome n out c now)
        (λ m i. r m (member_later m n ns i)) o.1
        (later_once n ns d)
        (next now before ns n out c (r n (member_first n n ns refl)).within s (apart_from n ns d)),
  )

module _ (law : NumberedNameFaultLaw) (t : EntryTable) (l : NodeLists) (ends : List DeadEnd) (known : ℕ → Bool)
    (query : List Step)
    (order : List ℕ)
    (nodes : AreSoundNodes t l) (explored : AreExplored t l ends known) (targets : LeadToKnownNumbers known query)
    (closing : AreNewlyClosedByWalk l.graph l.settled_flags query order) where
  known_below : {n m : ℕ} → known n ≡ true → GraphReaches l.graph n m → known m ≡ true
  known_below {n} {m} k (at_once h) = explored.numbers_are.below_known n m k h
  known_below {n} {m} k (further {x = x} h r) = known_below (explored.numbers_are.below_known n x k h) r

  known_reached : (n : ℕ) → IsReachedInGraph l.graph query n → known n ≡ true
  known_reached n (r, i, inl e) = subst (λ (x : ℕ). known x ≡ true) (sym e) (targets r i)
  known_reached n (r, i, inr way) = known_below (targets r i) way

  pub known_in_order : (n : ℕ) → Contains order n → known n ≡ true
  known_in_order n i = known_reached n ((closing.names_reached n).0 i).0

  ready : (n : ℕ) → Contains order n → IsReady t l n
  ready n i = record {
    within = inside;
    present = explored.numbers_are.known_have_entries n is_known;
    closed =
        sym (law.key t (node_key_at l.keys) (explored_fault_at ends) l.graph known explored.numbers_are
        nodes.net.steps_in_range n
        is_known)
        ∙ ap (option_map (fault_by_name t (node_key_at l.keys) (explored_fault_at ends)))
        ((closed_graph_name_law_holds.faultless_closed l.graph nodes.net.steps_in_range n
        (explored.numbers_are.known_in_range n is_known)).0 is_closed);
    ends = is_closed;
    faithful = λ other.
        any_words t (node_key_at l.keys) (explored_fault_at ends) other (table_words_of_key t (node_key_at l.keys n))
        (graph_steps l.graph n)
        (λ b j. closed_node_has_no_dead_end l.graph (length l.graph) n b is_closed j)
        (explored.numbers_are.known_steps n is_known);
    starts = explored.part_starts n is_known;
    looks = explored.looks n is_known (λ b j. closed_node_has_no_dead_end l.graph (length l.graph) n b is_closed j);
  }
    where
      is_known : known n ≡ true
      is_known = known_in_order n i

      is_closed : walk.IsClosedInGraph l.graph n
      is_closed = closing.names_closed n i

      inside : n < length l.keys
      inside = let a : n < length l.graph = explored.numbers_are.known_in_range n is_known in
          let b : length l.graph ≡ length l.keys = nodes.step_count in omega arith

  pub are_due : AreDueToBeSettled t l order
  are_due = due_from t l order [] l ready closing.targets_before closing.names_listed_once (record {
    keys = refl;
    graph = refl;
    looks = refl;
    size = nodes.net.mark_per_name ∙ nodes.step_count;
    done = λ m e. elim e [ inl q ↦ q | inr i ↦ absurd (no_member m i) ];
    fresh = λ m i. ((closing.names_reached m).0 i).1;
    callees = λ m i. refl;
  })
