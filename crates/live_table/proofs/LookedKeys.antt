-- The keys at which words look, for words in turn and when names are added.
use Rattle.std.proofs.Common.{◌≡◌, ◌⊎◌, ◌↔◌, ◌<◌, ◌≤◌, ℕ, List, [], ◌∷◌, ◌++◌, length, Contains, refl, sym, ◌∙◌, ap}
use Rattle.std.proofs.Common.{subst, inl, inr, arith}
use Rattle.std.proofs.lemmas.List.Elements.{Contains-append_cases, Contains-append_left, Contains-append_right}
use Rattle.expr_tree.specs.declared.word_list.WordUse.{WordUse}
use Rattle.def_entry.specs.declared.key.Key.{Key}
use Rattle.def_entry.specs.Tables.{EntryTable}
use Rattle.name_walk.specs.declared.step.Step.{Step}
use Rattle.name_walk.specs.declared.step.Step.TheVariants.{Nowhere, To}
use Rattle.table_names.specs.Leads.{table_word_looked_keys}
use Rattle.live_table.specs.Exploration.{IsExplorationGrowth}
use Rattle.live_table.specs.WordTargets.{AreNodeTargets}
use Rattle.live_table.specs.Looks.{AllNodeStepsLead, AreNodeLooks, AreNodeLooksAdded, IsSeenFromNode, NodeWordsLookAt}
use Rattle.live_table.specs.TableContents.{node_key_at}
use Rattle.live_table.proofs.AddedNames.{exploration_growth_is_no_shorter, node_key_stays_in_growth}
use Rattle.general_lemmas.proofs.Members.{no_member, member_first, member_later, member_cases}

-- the keys of numbers do not change when keys are added
module _ (ks ls : List Key) (more : IsExplorationGrowth ks ls) (xs : List Step) (ns : List ℕ)
    (inside : (m : ℕ) → Contains xs (To m) → m < length ks) (within : (m : ℕ) → Contains ns m → m < length ks) where
  here : (m : ℕ) → Contains xs (To m) ⊎ Contains ns m → node_key_at ls m ≡ node_key_at ks m
  here m (inl i) = node_key_stays_in_growth ks ls m more (inside m i)
  here m (inr i) = node_key_stays_in_growth ks ls m more (within m i)

  seen_more : (k : Key) → IsSeenFromNode ks xs ns k → IsSeenFromNode ls xs ns k
  seen_more k (m, i, e) = (m, i, e ∙ sym (here m i))

  seen_before : (k : Key) → IsSeenFromNode ls xs ns k → IsSeenFromNode ks xs ns k
  seen_before k (m, i, e) = (m, i, e ∙ here m i)

-- the keys at which words look do not change when keys are added
pub node_looks_stay_in_growth : (t : EntryTable) (ks ls : List Key) (us : List WordUse) (xs : List Step) (ns : List ℕ)
    → IsExplorationGrowth ks ls
    → ((m : ℕ) → Contains xs (To m) → m < length ks) → AreNodeLooks t ks us xs ns → AreNodeLooks t ls us xs ns
node_looks_stay_in_growth t ks ls us xs ns more inside l = record {
  seen_in_table = λ m i. let a : m < length ks = l.seen_in_table m i in
      let b : length ks ≤ length ls = exploration_growth_is_no_shorter ks ls more in
      omega arith;
  words_look = λ k. (
    λ w. seen_more ks ls more xs ns inside l.seen_in_table k ((l.words_look k).0 w),
    λ s. (l.words_look k).1 (seen_before ks ls more xs ns inside l.seen_in_table k s),
  );
}

-- if all steps lead somewhere, so do the first ones
pub first_node_steps_lead : (xs ys : List Step) → AllNodeStepsLead (xs ++ ys) → AllNodeStepsLead xs
first_node_steps_lead xs ys h t i = h t (Contains-append_left xs ys (Nowhere t) i)

-- if all steps lead somewhere, so do the last ones
pub last_node_steps_lead : (xs ys : List Step) → AllNodeStepsLead (xs ++ ys) → AllNodeStepsLead ys
last_node_steps_lead xs ys h t i = h t (Contains-append_right xs ys (Nowhere t) i)

-- one more word looks at its own keys
module _ (t : EntryTable) (keys : List Key) (us : List WordUse) (u : WordUse) (xs zs : List Step) (old new : List ℕ)
    (l : AreNodeLooks t keys us xs old) (p : AreNodeLooksAdded t keys u zs old new) where
  seen_first : (k : Key) → IsSeenFromNode keys xs old k → IsSeenFromNode keys (xs ++ zs) new k
  seen_first k (m, inl i, e) = (m, inl (Contains-append_left xs zs (To m) i), e)
  seen_first k (m, inr i, e) = (m, inr ((p.looks_merged m).1 (inl i)), e)

  seen_then : (k : Key) → IsSeenFromNode keys zs p.own_numbers k → IsSeenFromNode keys (xs ++ zs) new k
  seen_then k (m, inl i, e) = (m, inl (Contains-append_right xs zs (To m) i), e)
  seen_then k (m, inr i, e) = (m, inr ((p.looks_merged m).1 (inr i)), e)

  looked_first : (k : Key) → NodeWordsLookAt t us k → NodeWordsLookAt t (us ++ u ∷ []) k
  looked_first k (v, i, j) = (v, Contains-append_left us (u ∷ []) v i, j)

  looked_then : (k : Key) → Contains (table_word_looked_keys t u) k → NodeWordsLookAt t (us ++ u ∷ []) k
  looked_then k j = (u, Contains-append_right us (u ∷ []) u (member_first u u [] refl), j)

  to : (k : Key) → NodeWordsLookAt t (us ++ u ∷ []) k → IsSeenFromNode keys (xs ++ zs) new k
  to k (v, i, j) = elim (Contains-append_cases us (u ∷ []) v i) [
    | inl a ↦ seen_first k ((l.words_look k).0 (v, a, j))
    | inr b ↦ elim (member_cases v u [] b) [
      | inl e ↦ seen_then k ((p.words_look k).0 (subst (λ (w : WordUse). Contains (table_word_looked_keys t w) k) e j))
      | inr z ↦ absurd (no_member v z)
    ]
  ]

  from : (k : Key) → IsSeenFromNode keys (xs ++ zs) new k → NodeWordsLookAt t (us ++ u ∷ []) k
  from k (m, inl i, e) = elim (Contains-append_cases xs zs (To m) i) [
    | inl a ↦ looked_first k ((l.words_look k).1 (m, inl a, e))
    | inr b ↦ looked_then k ((p.words_look k).1 (m, inl b, e))
  ]
  from k (m, inr i, e) = elim ((p.looks_merged m).0 i) [
    | inl a ↦ looked_first k ((l.words_look k).1 (m, inr a, e))
    | inr b ↦ looked_then k ((p.words_look k).1 (m, inr b, e))
  ]

  pub looks_behind : AreNodeLooks t keys (us ++ u ∷ []) (xs ++ zs) new
  looks_behind = record {
    seen_in_table = λ m i. elim ((p.looks_merged m).0 i) [ inl a ↦ l.seen_in_table m a | inr b ↦ p.own_in_table m b ];
    words_look = λ k. (to k, from k);
  }

-- the targets of a word, as its steps
module _ (t : EntryTable) (keys : List Key) (u : WordUse) (ns old new : List ℕ) (xs : List Step)
    (a : AreNodeTargets t keys u ns old new)
    (same : (m : ℕ) → Contains xs (To m) ↔ Contains ns m) where
  pub looks_put : AreNodeLooksAdded t keys u xs old new
  looks_put = record {
    own_numbers = a.own_numbers;
    looks_merged = a.looks_merged;
    own_in_table = a.own_in_table;
    words_look = λ k. (λ w. by_steps k ((a.word_looks k).0 w), λ s. (a.word_looks k).1 (by_numbers k s));
  }
    where
      by_steps : (k : Key) → ((m : ℕ) × (Contains ns m ⊎ Contains a.own_numbers m) × (k ≡ node_key_at keys m))
          → IsSeenFromNode keys xs a.own_numbers k
      by_steps k (m, inl i, e) = (m, inl ((same m).1 i), e)
      by_steps k (m, inr i, e) = (m, inr i, e)

      by_numbers : (k : Key) → IsSeenFromNode keys xs a.own_numbers k
          → (m : ℕ) × (Contains ns m ⊎ Contains a.own_numbers m) × (k ≡ node_key_at keys m)
      by_numbers k (m, inl i, e) = (m, inl ((same m).0 i), e)
      by_numbers k (m, inr i, e) = (m, inr i, e)

-- equal steps lead to one number
equal_node_steps_have_one_number : (n m : ℕ) → To n ≡ To m → n ≡ m
equal_node_steps_have_one_number n m q = cc

-- a word with a single target has it as both steps
pub single_node_target_is_both_steps : (n m : ℕ) → Contains (To n ∷ To n ∷ []) (To m) ↔ Contains (n ∷ []) m
single_node_target_is_both_steps n m = (there, back)
  where
    there : Contains (To n ∷ To n ∷ []) (To m) → Contains (n ∷ []) m
    there i = elim (member_cases (To m) (To n) (To n ∷ []) i) [
      | inl e ↦ member_first m n [] (equal_node_steps_have_one_number m n e)
      | inr j ↦ elim (member_cases (To m) (To n) [] j)
          [ inl e ↦ member_first m n [] (equal_node_steps_have_one_number m n e) | inr z ↦ absurd (no_member (To m) z) ]
    ]

    back : Contains (n ∷ []) m → Contains (To n ∷ To n ∷ []) (To m)
    back i = elim (member_cases m n [] i)
        [ inl e ↦ member_first (To m) (To n) (To n ∷ []) (ap To e) | inr z ↦ absurd (no_member m z) ]

-- a word with two targets has each of them as one step
pub two_node_targets_are_two_steps : (n p m : ℕ) → Contains (To n ∷ To p ∷ []) (To m) ↔ Contains (n ∷ p ∷ []) m
two_node_targets_are_two_steps n p m = (there, back)
  where
    there : Contains (To n ∷ To p ∷ []) (To m) → Contains (n ∷ p ∷ []) m
    there i = elim (member_cases (To m) (To n) (To p ∷ []) i) [
      | inl e ↦ member_first m n (p ∷ []) (equal_node_steps_have_one_number m n e)
      | inr j ↦ elim (member_cases (To m) (To p) [] j) [
        | inl e ↦ member_later m n (p ∷ []) (member_first m p [] (equal_node_steps_have_one_number m p e))
        | inr z ↦ absurd (no_member (To m) z)
      ]
    ]

    back : Contains (n ∷ p ∷ []) m → Contains (To n ∷ To p ∷ []) (To m)
    back i = elim (member_cases m n (p ∷ []) i) [
      | inl e ↦ member_first (To m) (To n) (To p ∷ []) (ap To e)
      | inr j ↦ elim (member_cases m p [] j) [
        | inl e ↦ member_later (To m) (To n) (To p ∷ []) (member_first (To m) (To p) [] (ap To e))
        | inr z ↦ absurd (no_member m z)
      ]
    ]

-- the steps of a word that leads nowhere need no looks
pub dead_end_needs_no_node_looks : (t : EntryTable) (keys : List Key) (u : WordUse) (x y : Step) (b : ℕ)
    (old new : List ℕ) → x ≡ Nowhere b
    → AllNodeStepsLead (x ∷ y ∷ []) → AreNodeLooksAdded t keys u (x ∷ y ∷ []) old new
dead_end_needs_no_node_looks t keys u x y b old new e h = absurd (h b (member_first (Nowhere b) x (y ∷ []) (sym e)))
