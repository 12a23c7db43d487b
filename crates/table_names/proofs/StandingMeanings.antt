-- Keys and words stand for their computed meanings.
use Rattle.std.proofs.Common.{◌≡◌, ◌≢◌, ℕ, zero, suc, true, false, List, [], ◌∷◌, length, Contains, Option, Some, None}
use Rattle.std.proofs.Common.{is_some, refl, sym, ◌∙◌, ap, subst, inl, inr}
use Rattle.std.proofs.lemmas.Option.{same_Some}
use Rattle.expr_tree.specs.declared.word_list.WordUse.{WordUse}
use Rattle.def_entry.specs.declared.key.Key.{Key}
use Rattle.def_entry.specs.declared.key.Kind.{Kind}
use Rattle.def_entry.specs.declared.key.Kind.TheVariants as kind
use Rattle.def_entry.specs.Entries as what
use Rattle.def_entry.specs.Entries.{Entry, What}
use Rattle.def_entry.specs.SameKeys.{is_same_key_kind}
use Rattle.def_entry.specs.Tables.{EntryTable, entry_at}
use Rattle.tree_eval.specs.Entries.{evaluated_alias, evaluated_meaning}
use Rattle.tree_eval.specs.Expansions.{Callable, Callee, EvalMeaning, Expanded, One, Two}
use Rattle.tree_eval.specs.Expansion.{inverted_eval_word}
use Rattle.table_names.specs.ClosedKeys.{IsClosedKey, TableWordLeadsInto}
use Rattle.table_names.specs.Kinds as kinds
use Rattle.table_names.specs.Kinds.{StandsForTargets, TableNamesFitKinds, table_name_may_have, table_name_may_mean}
use Rattle.table_names.specs.Leads.{table_word_targets}
use Rattle.table_names.specs.Meanings.{entry_meaning, key_meaning, word_meaning}
use Rattle.table_names.specs.Words.{table_words_of_entry, table_words_of_key, table_words_of_what}
use Rattle.table_names.proofs.ClosedLaws.{closed_word_law}
use Rattle.table_names.proofs.EndingWays.{EndsWithin, into_others}
use Rattle.table_names.proofs.Lookups.{target_present}
use Rattle.table_names.proofs.MeaningKinds.{meaning_kind_law}
use Rattle.table_names.proofs.Meanings.{closed_meaning_law, entry_meaning_by_equal_words}
use Rattle.table_names.proofs.Paths.{closed_ending, closed_key_ending, ending_key_closed}
use Rattle.table_names.specs.StandsFor.{ByEntry, ByOneTarget, ByPrefixAndUnit, IsMeaning, StandsFor, WordStandsFor}
use Rattle.table_names.specs.StandsForLaws.{IsTableName, StandsForLaw}
use Rattle.table_names.proofs.TargetKinds.{table_word_target_is_no_list}
use Rattle.general_lemmas.proofs.Members.{no_member, member_first, member_later, member_cases}

one_same : (n k : Key) → n ∷ [] ≡ k ∷ [] → n ≡ k
one_same n k e = cc

not_two : (n k l : Key) → n ∷ [] ≡ k ∷ l ∷ [] → ⊥
not_two n k l e = cc

two_same : (n m k l : Key) → n ∷ m ∷ [] ≡ k ∷ l ∷ [] → (n ≡ k) × (m ≡ l)
two_same n m k l e = (cc, cc)

equal_meanings_have_one_value : (x y : Expanded) → One x ≡ One y → x ≡ y
equal_meanings_have_one_value x y e = cc

-- ---- the meaning of an entry by the rules is the computed one
meaning_by_rules_is_computed : (means : WordUse → EvalMeaning) (name : List ℕ) (w : What) (m : EvalMeaning)
    → IsMeaning means name w m
    → m ≡ evaluated_meaning means name w
meaning_by_rules_is_computed means name what.Primitive m s = s
meaning_by_rules_is_computed means name what.Dimensionless m s = s
meaning_by_rules_is_computed means name (what.Body e) m s = s
meaning_by_rules_is_computed means name (what.Function d) m s = s
meaning_by_rules_is_computed means name (what.Alias target) m s = s.2 ∙ sym (ap (evaluated_alias name) s.1)
meaning_by_rules_is_computed means name (what.Table d) m s = s
meaning_by_rules_is_computed means name (what.ListOf parts) m s = absurd s

computed_meaning_is_by_rules : (means : WordUse → EvalMeaning) (name : List ℕ) (k : Kind) (w : What) (m : EvalMeaning)
    → m ≡ evaluated_meaning means name w
    → is_same_key_kind k kind.List ≡ false → table_name_may_have k w ≡ true
    → ((target : List ℕ) → w ≡ what.Alias target → (f : Callable) × (means (inverted_eval_word target) ≡ Callee f))
    → IsMeaning means name w m
computed_meaning_is_by_rules means name k what.Primitive m e free may h = e
computed_meaning_is_by_rules means name k what.Dimensionless m e free may h = e
computed_meaning_is_by_rules means name k (what.Body b) m e free may h = e
computed_meaning_is_by_rules means name k (what.Function d) m e free may h = e
computed_meaning_is_by_rules means name k (what.Alias target) m e free may h =
    let r : (f : Callable) × (means (inverted_eval_word target) ≡ Callee f) = h target refl in
    (r.0, r.1, e ∙ ap (evaluated_alias name) r.1)
computed_meaning_is_by_rules means name k (what.Table d) m e free may h = e
computed_meaning_is_by_rules means name k (what.ListOf parts) m e free may h = let z : true ≡ false = sym may ∙ free in
    absurd (true_false z)
  where
    true_false : true ≡ false → ⊥
    true_false q = cc

-- a meaning that a function may have is a callable
function_meaning_is_callable : (m : EvalMeaning) → table_name_may_mean kind.Func m ≡ true
    → (f : Callable) × (m ≡ Callee f)
function_meaning_is_callable (One x) e = cc
function_meaning_is_callable (Two x y) e = cc
function_meaning_is_callable (Callee f) e = (f, refl)

module _ (table : EntryTable) where
  -- ---- a key or a word has at most one meaning
  mutual
    same : {n : Key} {m k : EvalMeaning} → StandsFor table n m → StandsFor table n k → m ≡ k
    same {n} {m} {k} (ByEntry e means q stands says) (ByEntry f other r stand says_too) =
        let same_entry : e ≡ f = same_Some e f (sym q ∙ r) in
        meaning_by_rules_is_computed means n.name e.what m says
        ∙ (entry_meaning_by_equal_words means other n.name (Some e)
        (λ u i. same_word (stands u i)
        (stand u (subst (λ (x : Entry). Contains (table_words_of_what x.what) u) same_entry i)))
        ∙ (ap (λ (x : Entry). evaluated_meaning other n.name x.what) same_entry
        ∙ sym (meaning_by_rules_is_computed other n.name f.what k says_too)))

    same_word : {u : WordUse} {m k : EvalMeaning} → WordStandsFor table u m → WordStandsFor table u k → m ≡ k
    same_word {u} {m} {k} (ByOneTarget a r t s) (ByOneTarget b p q v) =
        same s (subst (λ (x : Key). StandsFor table x k) (one_same b a (sym q ∙ t)) v)
    same_word {u} {m} {k} (ByOneTarget a r t s) (ByPrefixAndUnit b c x y p q v w e) = absurd (not_two a b c (sym t ∙ q))
    same_word {u} {m} {k} (ByPrefixAndUnit b c x y p q v w e) (ByOneTarget a r t s) = absurd (not_two a b c (sym t ∙ q))
    same_word {u} {m} {k} (ByPrefixAndUnit a c x y r t s v e) (ByPrefixAndUnit b d z l p q w o f) =
        let keys : (b ≡ a) × (d ≡ c) = two_same b d a c (sym q ∙ t) in
        let first : x ≡ z =
        equal_meanings_have_one_value x z (same s (subst (λ (n : Key). StandsFor table n (One z)) keys.0 w)) in
        let second : y ≡ l =
        equal_meanings_have_one_value y l (same v (subst (λ (n : Key). StandsFor table n (One l)) keys.1 o)) in
        e ∙ ((λ i. Two (first i) (second i)) ∙ sym f)

  -- ---- what has a meaning has no name fault
  only_one : (ks : List Key) (k n : Key) → ks ≡ n ∷ [] → Contains ks k → k ≡ n
  only_one ks k n e i =
      elim (member_cases k n [] (subst (λ (x : List Key). Contains x k) e i))
      [ inl q ↦ q | inr j ↦ absurd (no_member k j) ]

  some_keys : (ks : List Key) (n : Key) (rest : List Key) → ks ≡ n ∷ rest → ks ≢ []
  some_keys ks n rest e = λ z. cc

  into_two : (P : Key → Type 0) (ks : List Key) (n m : Key) → ks ≡ n ∷ m ∷ [] → P n → P m → (k : Key) → Contains ks k
      → P k
  into_two P ks n m e p q k i =
      elim (member_cases k n (m ∷ []) (subst (λ (x : List Key). Contains x k) e i)) [
        | inl f ↦ subst P (sym f) p
        | inr j ↦ subst P (sym (only_one (m ∷ []) k m refl j)) q
      ]

  words_close : (n : Key)
      → ((u : WordUse) → Contains (table_words_of_key table n) u → TableWordLeadsInto table (IsClosedKey table) u)
      → IsClosedKey table n
  words_close n h = (closed_word_law.key table n).1 ((closed_word_law.words table (table_words_of_key table n)).1 h)

  mutual
    closes : {n : Key} {m : EvalMeaning} → StandsFor table n m → IsClosedKey table n
    closes {n} (ByEntry e means q stands says) =
        words_close n (λ u i. leads (stands u (subst (λ (o : Option Entry). Contains (table_words_of_entry o) u) q i)))

    leads : {u : WordUse} {m : EvalMeaning} → WordStandsFor table u m → TableWordLeadsInto table (IsClosedKey table) u
    leads {u} (ByOneTarget n r t s) = record {
      not_refused = r;
      has_targets = some_keys (table_word_targets table u) n [] t;
      into = λ k i. subst (IsClosedKey table) (sym (only_one (table_word_targets table u) k n t i)) (closes s);
    }
    leads {u} (ByPrefixAndUnit n k x y r t s v e) = record {
      not_refused = r;
      has_targets = some_keys (table_word_targets table u) n (k ∷ []) t;
      into = into_two (IsClosedKey table) (table_word_targets table u) n k t (closes s) (closes v);
    }

  -- ---- in a table that fits kinds, each closed name stands for its computed meaning
  module _ (fits : TableNamesFitKinds table) where
    name : (u : WordUse) (n : Key) → Contains (table_word_targets table u) n → IsTableName table n
    name u n i = record {
      name_has_entry = target_present table u n i;
      no_list =
          table_word_target_is_no_list table u n i;
    }

    closed_leads : (k : ℕ) (u : WordUse) → TableWordLeadsInto table (EndsWithin table k) u
        → TableWordLeadsInto table (IsClosedKey table) u
    closed_leads k u h = into_others table (EndsWithin table k) (IsClosedKey table) u
        (λ m t. ending_key_closed table k m)
        h

    -- a word stands for its computed meaning if its targets do
    word_from : (u : WordUse) → TableWordLeadsInto table (IsClosedKey table) u
        → ((n : Key) → Contains (table_word_targets table u) n → StandsFor table n (key_meaning table n))
        → WordStandsFor table u (word_meaning table u)
    word_from u h key_stands = by (meaning_kind_law.words table fits u h)
      where
        by : StandsForTargets table u → WordStandsFor table u (word_meaning table u)
        by (kinds.ForOne n t e) =
            subst (WordStandsFor table u) (sym e)
            (ByOneTarget n h.not_refused t
            (key_stands n (subst (λ (ks : List Key). Contains ks n) (sym t) (member_first n n [] refl))))
        by (kinds.ForTwo n m x y t kn km en em e) =
            ByPrefixAndUnit n m x y h.not_refused t
            (subst (StandsFor table n) en
            (key_stands n (subst (λ (ks : List Key). Contains ks n) (sym t) (member_first n n (m ∷ []) refl))))
            (subst (StandsFor table m) em
            (key_stands m (subst (λ (ks : List Key). Contains ks m) (sym t)
            (member_later m n (m ∷ []) (member_first m m [] refl)))))
            e

    stands : (k : ℕ) (n : Key) → EndsWithin table k n → IsTableName table n → StandsFor table n (key_meaning table n)
    stands zero n ends is = absurd ends
    stands (suc k) n ends is =
        by (λ u i. word_from u (closed_leads k u (ends u i)) (λ m t. stands k m ((ends u i).into m t) (name u m t)))
        (entry_at table n) refl is.name_has_entry
      where
        in_key : (e : Entry) (u : WordUse) → entry_at table n ≡ Some e → Contains (table_words_of_what e.what) u
            → Contains (table_words_of_key table n) u
        in_key e u q i = subst (λ (o : Option Entry). Contains (table_words_of_entry o) u) (sym q) i

        alias_word : (w : What) (target : List ℕ) → w ≡ what.Alias target
            → Contains (table_words_of_what w) (inverted_eval_word target)
        alias_word w target a = subst (λ (x : What). Contains (table_words_of_what x) (inverted_eval_word target))
            (sym a)
            (member_first (inverted_eval_word target) (inverted_eval_word target) [] refl)

        by : ((u : WordUse) → Contains (table_words_of_key table n) u → WordStandsFor table u (word_meaning table u))
            → (o : Option Entry) → entry_at table n ≡ o → is_some o ≡ true → StandsFor table n (key_meaning table n)
        by words None q some = cc
        by words (Some e) q some =
            ByEntry e (word_meaning table) q (λ u i. words u (in_key e u q i))
            (computed_meaning_is_by_rules (word_meaning table) n.name n.kind e.what (key_meaning table n)
            (closed_meaning_law table n (ending_key_closed table (suc k) n ends)
            ∙ ap (entry_meaning (word_meaning table) n.name) q)
            is.no_list (fits n e q)
            (λ target a. function_meaning_is_callable (word_meaning table (inverted_eval_word target))
            (meaning_kind_law.inverses table fits target (closed_leads k (inverted_eval_word target)
            (ends (inverted_eval_word target) (in_key e (inverted_eval_word target) q (alias_word e.what target a)))))))

    word_stands : (k : ℕ) (u : WordUse) → TableWordLeadsInto table (EndsWithin table k) u
        → WordStandsFor table u (word_meaning table u)
    word_stands k u h = word_from u (closed_leads k u h) (λ n i. stands k n (h.into n i) (name u n i))

    inverse : (w : List ℕ) (m : EvalMeaning) → WordStandsFor table (inverted_eval_word w) m
        → (f : Callable) × (m ≡ Callee f)
    inverse w m s =
        let l : TableWordLeadsInto table (IsClosedKey table) (inverted_eval_word w) = leads s in
        let r : (f : Callable) × (word_meaning table (inverted_eval_word w) ≡ Callee f) =
        function_meaning_is_callable (word_meaning table (inverted_eval_word w))
        (meaning_kind_law.inverses table fits w l) in
        let e : m ≡ word_meaning table (inverted_eval_word w) =
        same_word s (word_stands (suc (length table)) (inverted_eval_word w)
        (into_others table (IsClosedKey table) (EndsWithin table (suc (length table))) (inverted_eval_word w)
        (λ n t. closed_key_ending table n) l)) in
        (r.0, e ∙ r.1)

-- the law of the meanings of keys and words
pub stands_for_law : StandsForLaw
stands_for_law = record {
  one_meaning = λ table n m k a b. same table a b;
  one_word = λ table u m k a b. same_word table a b;
  name_is_closed = λ table n m s. closes table s;
  closed_exactly = λ table fits n is. (
    λ closed. stands table fits (suc (length table)) n (closed_key_ending table n closed) is,
    λ s. closes table s,
  );
  words = λ table fits words. (
    λ closed u i. word_stands table fits (length table) u (closed_ending table words closed u i),
    λ h. (closed_word_law.words table words).1 (λ u i. leads table (h u i)),
  );
  inverse = inverse;
}
