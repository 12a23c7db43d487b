-- The steps of words, word after word.
use Rattle.std.proofs.Common.{◌≡◌, ◌⊎◌, ◌+◌, ◌<◌, ℕ, true, false, List, [], ◌∷◌, ◌++◌, take, length, Option, Some, refl}
use Rattle.std.proofs.Common.{sym, subst, inl, inr, arith, length-append}
use Rattle.std.proofs.lemmas.List.Elements.{Contains-append_cases}
use Rattle.std.specs.Prelude.{Contains, IfOk, Result, Ok, Err}
use Rattle.std.specs.List.{slice_get}
use Rattle.expr_tree.specs.declared.word_list.WordUse.{WordUse}
use Rattle.expr_tree.specs.Names.{is_refused}
use Rattle.def_entry.specs.declared.key.Key.{Key}
use Rattle.def_entry.specs.Tables.{EntryTable, is_entry_present}
use Rattle.table_names.proofs.Lookups.{target_present}
use Rattle.name_walk.specs.declared.step.Step.{Step}
use Rattle.name_walk.specs.declared.step.Step.TheVariants.{Nowhere, To}
use Rattle.table_names.specs.declared.fault.NameFault.{NameFault}
use Rattle.table_names.specs.Leads.{table_word_targets}
use Rattle.table_names.specs.NumberedNames.{AreWords, ForRefused, ForUnknown, IsWord}
use Rattle.live_table.specs.declared.dead_end.DeadEnd.{DeadEnd}
use Rattle.live_table.specs.ExploredNames.{explored_dead_end_fault, explored_fault_at}
use Rattle.live_table.specs.Exploration.{AreExplorationSteps, AreExplorationStepsAfter, AreNodesAdded}
use Rattle.live_table.specs.Exploration.{IsKnownToExploration}
use Rattle.live_table.specs.TableContents.{NodeLists, node_key_at}
use Rattle.live_table.specs.Looks.{AllNodeStepsLead, AreNodeLooks}
use Rattle.live_table.proofs.AddedNames.{known_node_is_within_keys, two_node_additions_are_one, written_more}
use Rattle.live_table.proofs.LookedKeys.{first_node_steps_lead, last_node_steps_lead, looks_behind}
use Rattle.live_table.proofs.LookedKeys.{node_looks_stay_in_growth}
use Rattle.general_lemmas.proofs.Places.{take_at}
use Rattle.general_lemmas.proofs.Members.{no_member, member_first, member_later, member_cases}

-- ---- one word after others
node_words_after_others : (t : EntryTable) (key : ℕ → Key) (ends : ℕ → Option Key → NameFault) (us vs : List WordUse)
    (xs ys : List Step)
    → AreWords t key ends us xs → AreWords t key ends vs ys → AreWords t key ends (us ++ vs) (xs ++ ys)
node_words_after_others t key ends [] vs [] ys w v = v
node_words_after_others t key ends [] vs (x ∷ xs) ys w v = absurd w
node_words_after_others t key ends (u ∷ us) vs [] ys w v = absurd w
node_words_after_others t key ends (u ∷ us) vs (x ∷ []) ys w v = absurd w
node_words_after_others t key ends (u ∷ us) vs (x ∷ y ∷ xs) ys w v =
    (w.0, node_words_after_others t key ends us vs xs ys w.1 v)

-- the steps of words after those of others are those of all
pub exploration_steps_after_others : (t : EntryTable) (l : NodeLists) (before list : List ℕ) (ends : List DeadEnd)
    (us vs : List WordUse)
    (xs ys : List Step)
    → AreExplorationSteps t l before list ends us xs → AreExplorationSteps t l before list ends vs ys
    → AreExplorationSteps t l before list ends
    (us ++ vs) (xs ++ ys)
exploration_steps_after_others t l before list ends us vs xs ys a b = record {
  words = node_words_after_others t (node_key_at l.keys) (explored_fault_at ends) us vs xs ys a.words b.words;
  targets = λ n i. elim (Contains-append_cases xs ys (To n) i) [ inl j ↦ a.targets n j | inr j ↦ b.targets n j ];
  dead_ends_within = λ n i.
      elim (Contains-append_cases xs ys (Nowhere n) i)
      [ inl j ↦ a.dead_ends_within n j | inr j ↦ b.dead_ends_within n j ];
}

-- ---- the state of the loop over words
pub record IsPutting (t : EntryTable) (old now : NodeLists) (before here list : List ℕ) (ends more : List DeadEnd)
    (gathered : List ℕ) (us : List WordUse) (xs : List Step) (i : ℕ) : Type 0 where
  pub added : AreNodesAdded t old now before here list ends more
  pub written : AreExplorationSteps t now before list more (take i us) xs
  pub looks : AllNodeStepsLead xs → AreNodeLooks t now.keys (take i us) xs gathered

-- the steps of the next word are appended
pub next_exploration_steps_are_put : (t : EntryTable) (old now m : NodeLists) (before here list there : List ℕ)
    (ends more most : List DeadEnd)
    (first next : List ℕ) (us : List WordUse) (xs ys : List Step) (i : ℕ) (u : WordUse)
    → slice_get us i ≡ Some u → IsPutting t old now before here list ends more first us xs i
    → AreNodesAdded t now m before list there more most
    → AreExplorationStepsAfter t m before there most first next u xs ys
    → IsPutting t old m before here there ends most next us ys (i + 1)
next_exploration_steps_are_put t old now m before here list there ends more most first next us xs ys i u at s a w =
    record {
      added = two_node_additions_are_one t old now m before here list there ends more most s.added a;
      written = subst (λ (p : List WordUse × List Step). AreExplorationSteps t m before there most p.0 p.1)
          (λ j. (sym (take_at us i u at) j, sym w.steps_appended j))
          (exploration_steps_after_others t m before there most (take i us) (u ∷ []) xs w.own_steps
          (written_more t now m before list there more most s.added.growth.nodes s.added.growth.list_right a.growth
          (take i us) xs s.written) w.own_steps_right);
      looks = λ all.
          let led : AllNodeStepsLead (xs ++ w.own_steps) = subst AllNodeStepsLead w.steps_appended all in
          subst (λ (p : List WordUse × List Step). AreNodeLooks t m.keys p.0 p.1 next)
          (λ j. (sym (take_at us i u at) j, sym w.steps_appended j))
          (looks_behind t m.keys (take i us) u xs w.own_steps first next
          (node_looks_stay_in_growth t now.keys m.keys (take i us) xs first a.growth.keys_more inside
          (s.looks (first_node_steps_lead xs w.own_steps led)))
          (w.looks (last_node_steps_lead xs w.own_steps led)));
    }
  where
    inside : (q : ℕ) → Contains xs (To q) → q < length now.keys
    inside q j = known_node_is_within_keys t now before list s.added.growth.nodes s.added.growth.list_right q
        (s.written.targets q j)

-- a member of a list of two steps is one of them
one_of_two : (x y s : Step) → Contains (x ∷ y ∷ []) s → (s ≡ x) ⊎ (s ≡ y)
one_of_two x y s i = elim (member_cases s x (y ∷ []) i) [
  | inl e ↦ inl e
  | inr j ↦ elim (member_cases s y [] j) [ inl e ↦ inr e | inr z ↦ absurd (no_member s z) ]
]

-- ---- the steps of one word
module _ (t : EntryTable) (l : NodeLists) (before list : List ℕ) (u : WordUse) where
  last_end : (ends : List DeadEnd) (b : DeadEnd) (holder : Option Key)
      → explored_fault_at (ends ++ b ∷ []) (length ends) holder ≡ explored_dead_end_fault (Some b) holder
  last_end [] b holder = refl
  last_end (x ∷ ends) b holder = last_end ends b holder

  not_to : (b n : ℕ) → Contains (Nowhere b ∷ Nowhere b ∷ []) (To n) → ⊥
  not_to b n i = elim (one_of_two (Nowhere b) (Nowhere b) (To n) i) [ inl e ↦ cc | inr e ↦ cc ]

  same_place : (b c : ℕ) → Nowhere c ≡ Nowhere b → c ≡ b
  same_place b c q = cc

  place_is : (b c : ℕ) → Contains (Nowhere b ∷ Nowhere b ∷ []) (Nowhere c) → c ≡ b
  place_is b c i = elim (one_of_two (Nowhere b) (Nowhere b) (Nowhere c) i)
      [ inl e ↦ same_place b c e | inr e ↦ same_place b c e ]

  dead_written : (ends : List DeadEnd) (b : DeadEnd)
      → IsWord t (node_key_at l.keys) (explored_fault_at (ends ++ b ∷ [])) u
      (Nowhere (length ends)) (Nowhere (length ends))
      → AreExplorationSteps t l before list (ends ++ b ∷ []) (u ∷ [])
      (Nowhere (length ends) ∷ Nowhere (length ends) ∷ [])
  dead_written ends b s = record {
    words = (s, tt);
    targets = λ n i. absurd (not_to (length ends) n i);
    dead_ends_within = λ c i.
        let e : c ≡ length ends = place_is (length ends) c i in
        let h : length (ends ++ b ∷ []) ≡ length ends + 1 = length-append ends (b ∷ []) in omega arith;
  }

  moved : (ends more : List DeadEnd) (b : DeadEnd) (x y : Step) → more ≡ ends ++ b ∷ [] → x ≡ Nowhere (length ends)
      → y ≡ Nowhere (length ends)
      → AreExplorationSteps t l before list (ends ++ b ∷ []) (u ∷ [])
      (Nowhere (length ends) ∷ Nowhere (length ends) ∷ [])
      → AreExplorationSteps t l before list more (u ∷ []) (x ∷ y ∷ [])
  moved ends more b x y e p q w =
      subst (λ (s : List DeadEnd × List Step). AreExplorationSteps t l before list s.0 (u ∷ []) s.1)
      (λ i. (sym e i, sym p i ∷ sym q i ∷ [])) w

  pub refused_written : (ends more : List DeadEnd) (x y : Step) → is_refused u.text ≡ true
      → more ≡ ends ++ record { text = u.text; is_refused = true } ∷ [] → x ≡ Nowhere (length ends)
      → y ≡ Nowhere (length ends)
      → AreExplorationSteps t l before list more (u ∷ []) (x ∷ y ∷ [])
  refused_written ends more x y is e p q =
      let b : DeadEnd = record { text = u.text; is_refused = true } in
      moved ends more b x y e p q (dead_written ends b (ForRefused (length ends) is (λ holder. last_end ends b holder)))

  pub unknown_written : (ends more : List DeadEnd) (x y : Step) → is_refused u.text ≡ false
      → table_word_targets t u ≡ []
      → more ≡ ends ++ record { text = u.text; is_refused = false } ∷ [] → x ≡ Nowhere (length ends)
      → y ≡ Nowhere (length ends)
      → AreExplorationSteps t l before list more (u ∷ []) (x ∷ y ∷ [])
  unknown_written ends more x y fine none e p q =
      let b : DeadEnd = record { text = u.text; is_refused = false } in
      moved ends more b x y e p q
      (dead_written ends b (ForUnknown (length ends) fine none (λ holder. last_end ends b holder)))

  same_number : (n m : ℕ) → To n ≡ To m → n ≡ m
  same_number n m q = cc

  targets_known : (n m : ℕ) → IsKnownToExploration l before list n → IsKnownToExploration l before list m → (r : ℕ)
      → Contains (To n ∷ To m ∷ []) (To r)
      → IsKnownToExploration l before list r
  targets_known n m a b r i = elim (one_of_two (To n) (To m) (To r) i) [
    | inl e ↦ subst (IsKnownToExploration l before list) (sym (same_number r n e)) a
    | inr e ↦ subst (IsKnownToExploration l before list) (sym (same_number r m e)) b
  ]

  no_end : (n m b : ℕ) → Contains (To n ∷ To m ∷ []) (Nowhere b) → ⊥
  no_end n m b i = elim (one_of_two (To n) (To m) (Nowhere b) i) [ inl e ↦ cc | inr e ↦ cc ]

  pub two_written : (ends : List DeadEnd) (n m : ℕ) → IsWord t (node_key_at l.keys) (explored_fault_at ends) u (To n)
      (To m)
      → IsKnownToExploration l before list n → IsKnownToExploration l before list m
      → AreExplorationSteps t l before list ends (u ∷ []) (To n ∷ To m ∷ [])
  two_written ends n m w a b = record {
    words = (w, tt);
    targets = targets_known n m a b;
    dead_ends_within = λ c i. absurd (no_end n m c i);
  }

-- ---- targets have entries
pub only_node_target_is_present : (t : EntryTable) (u : WordUse) (k : Key) → table_word_targets t u ≡ k ∷ []
    → is_entry_present t k ≡ true
only_node_target_is_present t u k e =
    target_present t u k (subst (λ (ks : List Key). Contains ks k) (sym e) (member_first k k [] refl))

-- the first of two targets is present
pub first_node_target_is_present : (t : EntryTable) (u : WordUse) (k l : Key) → table_word_targets t u ≡ k ∷ l ∷ []
    → is_entry_present t k ≡ true
first_node_target_is_present t u k l e =
    target_present t u k (subst (λ (ks : List Key). Contains ks k) (sym e) (member_first k k (l ∷ []) refl))

-- the second of two targets is present
pub second_node_target_is_present : (t : EntryTable) (u : WordUse) (k l : Key) → table_word_targets t u ≡ k ∷ l ∷ []
    → is_entry_present t l ≡ true
second_node_target_is_present t u k l e =
    target_present t u l (subst (λ (ks : List Key). Contains ks l) (sym e)
    (member_later l k (l ∷ []) (member_first l l [] refl)))

-- ---- facts of an answer
pub all_ok : {A E : Type 0} (r : Result A E) (P Q R S : A → Type 0) → IfOk r P → IfOk r Q → IfOk r R
    → ((x : A) → P x → Q x → R x → S x) → IfOk r S
all_ok (Ok x) P Q R S p q r f = f x p q r
all_ok (Err e) P Q R S p q r f = p
