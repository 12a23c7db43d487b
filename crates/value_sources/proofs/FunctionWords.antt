-- The words of functions, and the values of expressions without a name fault.
use Rattle.std.proofs.Common.{◌≡◌, ◌⊎◌, ◌∷◌, [], ◌++◌, ℕ, List, Bool, true, false, Contains, map, Option, Some, None}
use Rattle.std.proofs.Common.{Ok, Err, inl, inr, refl, sym, ap, ◌∙◌, subst}
use Rattle.std.specs.Prelude.{◌&&◌, if◌then◌else◌}
use Rattle.std.specs.List.{list_all}
use Rattle.std.proofs.lemmas.List.Elements.{Contains-append_left, Contains-append_right}
use Rattle.expr_tree.specs.declared.word_list.WordUse.{WordUse}
use Rattle.expr_tree.specs.Syntax as tree
use Rattle.expr_tree.specs.Syntax.{Syntax}
use Rattle.expr_tree.specs.Words.{words_in}
use Rattle.quantity.specs.Amount.{Amount}
use Rattle.def_entry.specs.declared.key.Key.{Key}
use Rattle.def_entry.specs.declared.key.Kind.{Kind}
use Rattle.def_entry.specs.declared.key.Kind.TheVariants as kind
use Rattle.def_entry.specs.Keys.{key}
use Rattle.def_entry.specs.Tables.{EntryTable, is_entry_present}
use Rattle.name_lookup.specs.Candidates.{candidates, first_present, part_candidates}
use Rattle.tree_eval.specs.Expansions.{Callable, Callee, EvalMeaning, One, Two}
use Rattle.tree_eval.specs.Expansion.{called_eval_word, eval_meaning_expansion, inverted_eval_word, plain_eval_word}
use Rattle.tree_eval.specs.Steps.{ValueOrFault}
use Rattle.tree_eval.specs.Value.{value}
use Rattle.table_names.specs.declared.fault.NameFault.{NameFault}
use Rattle.table_names.specs.ClosedKeys.{AreClosedWords, IsClosedKey, TableWordLeadsInto}
use Rattle.table_names.specs.ClosedLaws.{ClosedWordLaw}
use Rattle.table_names.specs.Kinds.{ForOne, ForTwo, MeaningKindLaw, StandsForTargets, TableNamesFitKinds}
use Rattle.table_names.specs.Kinds.{table_name_may_mean}
use Rattle.table_names.specs.Leads.{table_word_targets}
use Rattle.table_names.specs.Meanings.{expansion, key_meaning, targets_meaning, word_meaning}
use Rattle.live_table.specs.Answers.{live_answer_of_value, live_answer_value}
use Rattle.value_sources.specs.FailedSteps.{are_source_function, is_source_function_kind, is_source_function_word}
use Rattle.value_sources.specs.FailedSteps.{source_value_of_tree}
use Rattle.general_lemmas.proofs.Members.{no_member, member_first, member_cases}

-- the value of an evaluation, if it has one
abbrev pub value_without_fault : ValueOrFault → Option Amount
value_without_fault (Ok v) = Some v
value_without_fault (Err fault) = None

-- a kind that is one of functions
source_function_kind_is_func : (k : Kind) → is_source_function_kind k ≡ true → k ≡ kind.Func
source_function_kind_is_func kind.Unit e = cc
source_function_kind_is_func kind.Prefix e = cc
source_function_kind_is_func kind.Func e = refl
source_function_kind_is_func kind.List e = cc

-- the meaning of a key of a function is a function
source_function_is_callee : (m : EvalMeaning) → table_name_may_mean kind.Func m ≡ true → (f : Callable) × (m ≡ Callee f)
source_function_is_callee (Callee f) h = (f, refl)
source_function_is_callee (One x) h = cc
source_function_is_callee (Two x y) h = cc

-- a key to which candidates lead alone is present
module _ (has : Key → Bool) (n : Key) where
  alone : (b : Bool) → (b && true) ≡ true → b ≡ true
  alone true e = refl
  alone false e = cc

  first_or_later : (c later : List Key) → (later ≡ n ∷ [] → has n ≡ true) → (b : Bool) → list_all has c ≡ b
      → (if b then c else later) ≡ n ∷ [] → has n ≡ true
  first_or_later c later further true h q = alone (has n) (sym (ap (list_all has) q) ∙ h)
  first_or_later c later further false h q = further q

  alone_present : (cs : List (List Key)) → first_present has cs ≡ n ∷ [] → has n ≡ true
  alone_present [] e = cc
  alone_present (c ∷ cs) e = first_or_later c (first_present has cs) (alone_present cs) (list_all has c) refl e

-- a word before an operand that is no function leads to the same alone
called_source_targets : (f u : Key) (has_f has_u : Bool) (parts : List Key) → f.kind ≡ kind.Func
    → are_source_function (if has_f && true then f ∷ [] else (if has_u && true then u ∷ [] else parts)) ≡ false
    → (if has_u && true then u ∷ [] else (if has_f && true then f ∷ [] else parts))
    ≡ (if has_f && true then f ∷ [] else (if has_u && true then u ∷ [] else parts))
called_source_targets f u true has_u parts k e = let h : is_source_function_kind f.kind ≡ true =
    ap is_source_function_kind k in cc
called_source_targets f u false true parts k e = refl
called_source_targets f u false false parts k e = refl

-- a word after a `~` that is no function leads nowhere
inverse_source_targets : (f : Key) (has_f : Bool) → f.kind ≡ kind.Func
    → are_source_function (if has_f && true then f ∷ [] else []) ≡ false → (if has_f && true then f ∷ [] else []) ≡ []
inverse_source_targets f true k e = let h : is_source_function_kind f.kind ≡ true = ap is_source_function_kind k in cc
inverse_source_targets f false k e = refl

module _ (t : EntryTable) where
  target_function : (u : WordUse) (b : Bool) → is_source_function_word t u ≡ b
      → are_source_function (table_word_targets t u) ≡ b
  unfolding is_source_function_word
  target_function u b e = e

  plain_targets : (w : List ℕ) → is_source_function_word t (called_eval_word w) ≡ false
      → table_word_targets t (plain_eval_word w) ≡ table_word_targets t (called_eval_word w)
  plain_targets w e =
      called_source_targets (key kind.Func w) (key kind.Unit w) (is_entry_present t (key kind.Func w))
      (is_entry_present t (key kind.Unit w)) (first_present (is_entry_present t) (part_candidates w)) refl
      (target_function (called_eval_word w) false e)

  pub no_inverse_targets : (w : List ℕ) → is_source_function_word t (inverted_eval_word w) ≡ false
      → table_word_targets t (inverted_eval_word w) ≡ []
  no_inverse_targets w e =
      inverse_source_targets (key kind.Func w) (is_entry_present t (key kind.Func w)) refl
      (target_function (inverted_eval_word w) false e)

-- the value of an expression without a name fault is that of its expansion
module _ (t : EntryTable) where
  named_value : (r : ValueOrFault) → live_answer_value (live_answer_of_value None r) ≡ value_without_fault r
  named_value (Ok v) = refl
  named_value (Err fault) = refl

  pub closed_value : (e : Syntax) → AreClosedWords t (words_in e) → source_value_of_tree t e ≡ value_without_fault
      (value (expansion t e) None)
  unfolding source_value_of_tree
  closed_value e c =
      ap (λ (o : Option NameFault). live_answer_value (live_answer_of_value o (value (expansion t e) None))) c
      ∙ named_value (value (expansion t e) None)

-- ---- in a table that fits kinds
module _ (closing : ClosedWordLaw) (kinds : MeaningKindLaw) (t : EntryTable) (fits : TableNamesFitKinds t) where
  pub closed_left : (a b : List WordUse) → AreClosedWords t (a ++ b) → AreClosedWords t a
  closed_left a b c =
      (closing.words t a).1 (λ u i. (closing.words t (a ++ b)).0 c u (Contains-append_left a b u i))

  pub closed_right : (a b : List WordUse) → AreClosedWords t (a ++ b) → AreClosedWords t b
  closed_right a b c =
      (closing.words t b).1 (λ u i. (closing.words t (a ++ b)).0 c u (Contains-append_right a b u i))

  pub first_leads : (u : WordUse) (us : List WordUse) → AreClosedWords t (u ∷ us)
      → TableWordLeadsInto t (IsClosedKey t) u
  first_leads u us c = (closing.words t (u ∷ us)).0 c u (member_first u u us refl)

  pub function_meaning : (u : WordUse) → TableWordLeadsInto t (IsClosedKey t) u → is_source_function_word t u ≡ true
      → (f : Callable) × (word_meaning t u ≡ Callee f)
  function_meaning u leads is = by (kinds.words t fits u leads)
    where
      by : StandsForTargets t u → (f : Callable) × (word_meaning t u ≡ Callee f)
      by (ForOne n led means) =
          let func : n.kind ≡ kind.Func =
          source_function_kind_is_func n.kind (sym (ap are_source_function led) ∙ target_function t u true is) in
          let there : is_entry_present t n ≡ true = alone_present (is_entry_present t) n (candidates u.kind u.text) led
          in
          let closed : IsClosedKey t n =
          leads.into n (subst (λ (ks : List Key). Contains ks n) (sym led) (member_first n n [] refl)) in
          let mean : table_name_may_mean kind.Func (key_meaning t n) ≡ true =
          subst (λ (k : Kind). table_name_may_mean k (key_meaning t n) ≡ true) func (kinds.keys t fits n there closed)
          in
          let callee = source_function_is_callee (key_meaning t n) mean in
          (callee.0, means ∙ callee.1)
      by (ForTwo n m x y led prefix unit first second means) =
          let fails : false ≡ true = sym (ap are_source_function led) ∙ target_function t u true is in cc

  -- a word that is no function is the same word alone
  plain_leads : (w : List ℕ) → is_source_function_word t (called_eval_word w) ≡ false
      → TableWordLeadsInto t (IsClosedKey t) (called_eval_word w)
      → TableWordLeadsInto t (IsClosedKey t) (plain_eval_word w)
  plain_leads w fails leads = record {
    not_refused = leads.not_refused;
    has_targets = λ q. leads.has_targets (sym (plain_targets t w fails) ∙ q);
    into = λ n i. leads.into n (subst (λ (ks : List Key). Contains ks n) (plain_targets t w fails) i);
  }

  plain_closed : (w : List ℕ) → is_source_function_word t (called_eval_word w) ≡ false
      → TableWordLeadsInto t (IsClosedKey t) (called_eval_word w)
      → AreClosedWords t (plain_eval_word w ∷ [])
  plain_closed w fails leads =
      (closing.words t (plain_eval_word w ∷ [])).1 (λ u i. by u (member_cases u (plain_eval_word w) [] i))
    where
      by : (u : WordUse) → (u ≡ plain_eval_word w) ⊎ Contains [] u → TableWordLeadsInto t (IsClosedKey t) u
      by u (inl q) = subst (TableWordLeadsInto t (IsClosedKey t)) (sym q) (plain_leads w fails leads)
      by u (inr i) = absurd (no_member u i)

  pub plain_value : (w : List ℕ) → is_source_function_word t (called_eval_word w) ≡ false
      → TableWordLeadsInto t (IsClosedKey t) (called_eval_word w)
      → source_value_of_tree t (tree.Word w) ≡ value_without_fault
      (value (eval_meaning_expansion (word_meaning t (called_eval_word w))) None)
  plain_value w fails leads =
      closed_value t (tree.Word w) (plain_closed w fails leads)
      ∙ ap (λ (ks : List Key).
      value_without_fault (value (eval_meaning_expansion (targets_meaning (map (key_meaning t) ks))) None))
      (plain_targets t w fails)
