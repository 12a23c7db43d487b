-- The meanings of closed keys and words, by the kinds of keys.
use Rattle.std.proofs.Common.{◌≡◌, ◌||◌, ℕ, zero, suc, true, false, not, List, [], ◌∷◌, length, map, Contains}
use Rattle.std.proofs.Common.{Option, Some, None, is_some, refl, sym, ◌∙◌, ap, subst}
use Rattle.expr_tree.specs.declared.word_list.WordUse.{WordUse}
use Rattle.def_entry.specs.declared.key.Key.{Key}
use Rattle.def_entry.specs.declared.key.Kind.{Kind}
use Rattle.def_entry.specs.declared.key.Kind.TheVariants as kind
use Rattle.def_entry.specs.Entries as what
use Rattle.def_entry.specs.Entries.{Entry, What}
use Rattle.def_entry.specs.Keys.{key}
use Rattle.def_entry.specs.SameKeys.{is_same_key_kind}
use Rattle.def_entry.specs.Tables.{EntryTable, entry_at, is_entry_present}
use Rattle.tree_eval.specs.Entries.{evaluated_alias, evaluated_meaning}
use Rattle.tree_eval.specs.Expansions.{Callee, EvalMeaning, Expanded, One, Two}
use Rattle.tree_eval.specs.Expansion.{inverted_eval_word}
use Rattle.table_names.specs.ClosedKeys.{IsClosedKey, TableWordLeadsInto}
use Rattle.table_names.specs.Kinds.{ForOne, ForTwo, MeaningKindLaw, StandsForTargets, TableNamesFitKinds}
use Rattle.table_names.specs.Kinds.{table_name_may_have, table_name_may_mean}
use Rattle.table_names.specs.Leads.{table_word_targets}
use Rattle.table_names.specs.Meanings.{entry_meaning, key_meaning, meaning_within, targets_meaning, word_meaning}
use Rattle.table_names.specs.Meanings.{word_meaning_by}
use Rattle.table_names.specs.Words.{table_words_of_entry, table_words_of_key, table_words_of_what}
use Rattle.table_names.proofs.EndingWays.{EndsWithin, into_others}
use Rattle.table_names.proofs.LineKinds.{line_fits_table_name}
use Rattle.table_names.proofs.Lookups.{target_present}
use Rattle.table_names.proofs.Paths.{present_key_ending}
use Rattle.table_names.proofs.TargetKinds.{AreTargets, inverted_table_word_target, table_word_targets_have_kinds}
use Rattle.general_lemmas.proofs.Members.{member_first, member_later}

-- a unit or a prefix is not a function
unit_or_prefix_means_no_function : (k : Kind) → (is_same_key_kind k kind.Unit || is_same_key_kind k kind.Prefix) ≡ true
    → not (is_same_key_kind k kind.Func) ≡ true
unit_or_prefix_means_no_function kind.Unit e = refl
unit_or_prefix_means_no_function kind.Prefix e = refl
unit_or_prefix_means_no_function kind.Func e = cc
unit_or_prefix_means_no_function kind.List e = cc

-- a unit is not a function
unit_means_no_function : (k : Kind) → is_same_key_kind k kind.Unit ≡ true → not (is_same_key_kind k kind.Func) ≡ true
unit_means_no_function kind.Unit e = refl
unit_means_no_function kind.Prefix e = cc
unit_means_no_function kind.Func e = cc
unit_means_no_function kind.List e = cc

-- a list is not a function
list_means_no_function : (k : Kind) → is_same_key_kind k kind.List ≡ true → not (is_same_key_kind k kind.Func) ≡ true
list_means_no_function kind.Unit e = cc
list_means_no_function kind.Prefix e = cc
list_means_no_function kind.Func e = cc
list_means_no_function kind.List e = refl

-- the alias of a function means a function
alias_meaning_is_function :
    (k : Kind) (name : List ℕ) (m : EvalMeaning) → is_same_key_kind k kind.Func ≡ true
    → table_name_may_mean kind.Func m ≡ true
    → table_name_may_mean k (evaluated_alias name m) ≡ true
alias_meaning_is_function k name (One x) e h = cc
alias_meaning_is_function k name (Two x y) e h = cc
alias_meaning_is_function k name (Callee f) e h = e

-- an entry that a key of a kind may have means what such a key may mean, if the target of an alias means a function
fitting_entry_has_fitting_meaning :
    (means : WordUse → EvalMeaning) (k : Kind) (name : List ℕ) (w : What) → table_name_may_have k w ≡ true
    → ((target : List ℕ) → w ≡ what.Alias target
    → table_name_may_mean kind.Func (means (inverted_eval_word target)) ≡ true)
    → table_name_may_mean k (evaluated_meaning means name w) ≡ true
fitting_entry_has_fitting_meaning means k name what.Primitive e h = unit_means_no_function k e
fitting_entry_has_fitting_meaning means k name what.Dimensionless e h = unit_means_no_function k e
fitting_entry_has_fitting_meaning means k name (what.Body x) e h = unit_or_prefix_means_no_function k e
fitting_entry_has_fitting_meaning means k name (what.Function d) e h = e
fitting_entry_has_fitting_meaning means k name (what.Alias target) e h = alias_meaning_is_function k name
    (means (inverted_eval_word target)) e (h target refl)
fitting_entry_has_fitting_meaning means k name (what.Table d) e h = e
fitting_entry_has_fitting_meaning means k name (what.ListOf parts) e h = list_means_no_function k e

-- a key that is not a function means an expression
non_function_meaning_is_expression : (k : Kind) (m : EvalMeaning) → is_same_key_kind k kind.Func ≡ false
    → table_name_may_mean k m ≡ true
    → (x : Expanded) × (m ≡ One x)
non_function_meaning_is_expression k (One x) e h = (x, refl)
non_function_meaning_is_expression k (Two x y) e h = cc
non_function_meaning_is_expression k (Callee f) e h = cc

module _ (table : EntryTable) (fits : TableNamesFitKinds table) where
  -- a word after a `~` means a function if its targets mean what their kinds may mean
  inverse_means :
      (mean : Key → EvalMeaning) (w : List ℕ)
      → TableWordLeadsInto table (λ m. table_name_may_mean m.kind (mean m) ≡ true) (inverted_eval_word w)
      → table_name_may_mean kind.Func (word_meaning_by table mean (inverted_eval_word w)) ≡ true
  inverse_means mean w h =
      let f : Key = key kind.Func w in
      let is : table_word_targets table (inverted_eval_word w) ≡ f ∷ [] =
      inverted_table_word_target table w h.has_targets in
      let t : Contains (table_word_targets table (inverted_eval_word w)) f =
      subst (λ ks. Contains ks f) (sym is) (member_first f f [] refl) in
      subst (λ ks. table_name_may_mean kind.Func (targets_meaning (map mean ks)) ≡ true) (sym is) (h.into f t)

  -- a key means what its kind may mean if the targets of its words do
  entry_means :
      (mean : Key → EvalMeaning) (n : Key) → is_entry_present table n ≡ true
      → ((u : WordUse) → Contains (table_words_of_key table n) u
      → TableWordLeadsInto table (λ m. table_name_may_mean m.kind (mean m) ≡ true) u)
      → table_name_may_mean n.kind (entry_meaning (word_meaning_by table mean) n.name (entry_at table n)) ≡ true
  entry_means mean n there leads = by (entry_at table n) refl there
    where
      alias_word :
          (o : Option Entry) (e : Entry) (target : List ℕ) → o ≡ Some e → e.what ≡ what.Alias target
          → Contains (table_words_of_entry o) (inverted_eval_word target)
      alias_word o e target q a =
          let words : table_words_of_entry o ≡ inverted_eval_word target ∷ [] = ap table_words_of_entry q
          ∙ ap table_words_of_what a in
          subst (λ (ws : List WordUse). Contains ws (inverted_eval_word target)) (sym words)
          (member_first (inverted_eval_word target) (inverted_eval_word target) [] refl)

      by :
          (o : Option Entry) → entry_at table n ≡ o → is_some o ≡ true
          → table_name_may_mean n.kind (entry_meaning (word_meaning_by table mean) n.name o) ≡ true
      by None q some = cc
      by (Some e) q some =
          fitting_entry_has_fitting_meaning (word_meaning_by table mean) n.kind n.name e.what (fits n e q)
          (λ target a. inverse_means mean target
          (leads (inverted_eval_word target) (alias_word (entry_at table n) e target q a)))

  keys_mean : (k : ℕ) (n : Key) → EndsWithin table k n → is_entry_present table n ≡ true
      → table_name_may_mean n.kind (meaning_within table k n) ≡ true
  keys_mean zero n ends there = absurd ends
  keys_mean (suc k) n ends there =
      entry_means (meaning_within table k) n there (λ u i.
      into_others table (EndsWithin table k) (λ m. table_name_may_mean m.kind (meaning_within table k m) ≡ true) u
      (λ m t e. keys_mean k m e (target_present table u m t)) (ends u i))

  key_means : (n : Key) → is_entry_present table n ≡ true → IsClosedKey table n
      → table_name_may_mean n.kind (key_meaning table n) ≡ true
  key_means n there closed = keys_mean (length table) n (present_key_ending table n there closed) there

  target_means :
      (u : WordUse) → TableWordLeadsInto table (IsClosedKey table) u → (n : Key)
      → Contains (table_word_targets table u) n
      → table_name_may_mean n.kind (key_meaning table n) ≡ true
  target_means u h n t = key_means n (target_present table u n t) (h.into n t)

  closed_inverse :
      (w : List ℕ) → TableWordLeadsInto table (IsClosedKey table) (inverted_eval_word w)
      → table_name_may_mean kind.Func (word_meaning table (inverted_eval_word w)) ≡ true
  closed_inverse w h =
      inverse_means (key_meaning table) w
      (into_others table (IsClosedKey table) (λ m. table_name_may_mean m.kind (key_meaning table m) ≡ true)
      (inverted_eval_word w)
      (λ m t e. target_means (inverted_eval_word w) h m t) h)

  word_stands : (u : WordUse) → TableWordLeadsInto table (IsClosedKey table) u → StandsForTargets table u
  word_stands u h = by (table_word_targets table u) refl (table_word_targets_have_kinds table u)
    where
      of_targets : List Key → EvalMeaning
      of_targets ks = targets_meaning (map (key_meaning table) ks)

      by : (ks : List Key) → table_word_targets table u ≡ ks → AreTargets ks → StandsForTargets table u
      by [] q a = absurd (h.has_targets q)
      by (n ∷ []) q a = ForOne n q (ap of_targets q)
      by (n ∷ m ∷ []) q a =
          let first_in : Contains (table_word_targets table u) n =
          subst (λ ks. Contains ks n) (sym q) (member_first n n (m ∷ []) refl) in
          let second_in : Contains (table_word_targets table u) m =
          subst (λ ks. Contains ks m) (sym q) (member_later m n (m ∷ []) (member_first m m [] refl)) in
          let x : (x : Expanded) × (key_meaning table n ≡ One x) =
          non_function_meaning_is_expression n.kind (key_meaning table n) (ap (λ k. is_same_key_kind k kind.Func) a.0)
          (target_means u h n first_in) in
          let y : (y : Expanded) × (key_meaning table m ≡ One y) =
          non_function_meaning_is_expression m.kind (key_meaning table m) (ap (λ k. is_same_key_kind k kind.Func) a.1)
          (target_means u h m second_in) in
          let both : of_targets (n ∷ m ∷ []) ≡ Two x.0 y.0 = λ i. targets_meaning (x.1 i ∷ y.1 i ∷ []) in
          ForTwo n m x.0 y.0 q a.0 a.1 x.1 y.1 (ap of_targets q ∙ both)
      by (n ∷ m ∷ o ∷ ks) q a = absurd a

-- the law of kinds
pub meaning_kind_law : MeaningKindLaw
meaning_kind_law = record {
  lines = line_fits_table_name;
  keys = key_means;
  words = word_stands;
  inverses =
      closed_inverse;
}
