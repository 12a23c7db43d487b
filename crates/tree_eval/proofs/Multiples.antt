-- The value of a number and a word side by side is that of the number times the word.
use Rattle.std.proofs.Common.{◌≡◌, ◌<◌, ◌+◌, ℕ, List, [], ◌∷◌, ◌++◌, Bool, Option, Result, Ok, Err, map, length}
use Rattle.std.proofs.Common.{None, Some, refl, sym, ap, ◌∙◌, subst}
use Rattle.std.specs.Prelude.{IfSome, OnOk, slice_get}
use Rattle.expr_tree.specs.declared.word_list.WordUse.{WordUse}
use Rattle.expr_tree.specs.Syntax.{Syntax, Word}
use Rattle.expr_tree.specs.Words.{words_in}
use Rattle.frac128.specs.declared.fault.FracFault.{FracFault}
use Rattle.frac128.specs.Fraction.{Fraction}
use Rattle.quantity.specs.Amount.{Amount}
use Rattle.units_io.specs.Outcomes.{◌>>=◌}
use Rattle.tree_eval.specs.declared.multiple.Factor.{Factor}
use Rattle.tree_eval.specs.declared.step.Step.TheVariants.{Multiply}
use Rattle.tree_eval.specs.declared.meaning.Meaning.{Meaning as ReportedMeaning}
use Rattle.tree_eval.specs.declared.fault.EvalFault.{EvalFault}
use Rattle.tree_eval.specs.Answers.{GivesValueOrFault}
use Rattle.tree_eval.specs.Environment.{IsEvalWordRun, IsReportedEvalMeaning}
use Rattle.tree_eval.specs.Expansions.{Callable, EvalMeaning}
use Rattle.tree_eval.specs.Expansion.{expand, plain_eval_word}
use Rattle.tree_eval.specs.Multiples.{HasNumberValue, IsOperandMultiple, factor_number_value, word_multiple_value}
use Rattle.tree_eval.specs.Operands.{chain, operand_by_side, value_with_operand, words_of_operands}
use Rattle.tree_eval.specs.Steps.{ValueOrFault, operand_step_value}
use Rattle.tree_eval.specs.WordValues.{IsUsableEvalMeaning, reported_word_value}
use Rattle.tree_eval.specs.Value.{value}
use Rattle.tree_eval.proofs.Calls.{reported_eval_meaning_is_usable, reported_plain_word_value}
use Rattle.tree_eval.proofs.Places.{first_eval_word_at_run, first_eval_word_within}

value_of_only_operand : (w : ValueOrFault) → (w >>= (λ x. Ok x)) ≡ w
value_of_only_operand (Ok x) = refl
value_of_only_operand (Err e) = refl

-- a step to the last member
value_of_last_operand : (left : Amount) (w : ValueOrFault)
    → (w >>= (λ x. operand_step_value Multiply left x >>= (λ y. Ok y))) ≡ value_with_operand Multiply left w
value_of_last_operand left (Ok x) = value_of_only_operand (operand_step_value Multiply left x)
value_of_last_operand left (Err e) = refl

value_of_first_operand : (r w : ValueOrFault)
    → (r >>= (λ left. w >>= (λ x. operand_step_value Multiply left x >>= (λ y. Ok y))))
    ≡ (r >>= (λ left. value_with_operand Multiply left w))
value_of_first_operand (Ok left) w = value_of_last_operand left w
value_of_first_operand (Err e) w = refl

product_multiple_value : (means : WordUse → EvalMeaning) (es : List Syntax) (x : Result Fraction FracFault)
    (a : Option Amount)
    (is : IsOperandMultiple es x)
    → value (chain means (map operand_by_side es)) a ≡ word_multiple_value x (value (expand means (Word is.1)) a)
product_multiple_value means es x a is =
    ap (λ y. value (chain means (map operand_by_side y)) a) is.2
    ∙ value_of_first_operand (value (expand means is.0) a) (value (expand means (Word is.1)) a)
    ∙ ap (λ r. r >>= (λ left. value_with_operand Multiply left (value (expand means (Word is.1)) a))) (is.4 means a)

multiple_operand_words : (es : List Syntax) (x : Result Fraction FracFault) (is : IsOperandMultiple es x)
    → words_of_operands (map operand_by_side es) ≡ plain_eval_word is.1 ∷ []
multiple_operand_words es x is =
    ap (λ y. words_of_operands (map operand_by_side y)) is.2 ∙ ap (λ ws. ws ++ (plain_eval_word is.1 ∷ [])) is.3

-- members that are a number and a word, as a call that looks for them reports
module _ (es : List Syntax) {r : Option Factor} {f : Factor} (some : r ≡ Some f)
    (found : IfSome r (λ x. IsOperandMultiple es (factor_number_value x))) where
  -- the members are a number and a word
  is : IsOperandMultiple es (factor_number_value f)
  is = subst (λ z. IfSome z (λ x. IsOperandMultiple es (factor_number_value x))) some found

  -- the members have only one word
  only_word : words_of_operands (map operand_by_side es) ≡ plain_eval_word is.1 ∷ []
  only_word = multiple_operand_words es (factor_number_value f) is

  -- the place after the word is past the members
  pub multiple_place : {A E : Type 0} (y : Result A E) (p : ℕ) {q : ℕ} → q ≡ p + 1
      → OnOk y (q ≡ p + length (words_of_operands (map operand_by_side es)))
  multiple_place (Ok z) p {q} n = n ∙ ap (λ ws. p + length ws) (sym only_word)
  multiple_place (Err f) p n = tt

  -- the words of the members are at the place
  module _ (us : List WordUse) (p : ℕ) (here : IsEvalWordRun us p (words_of_operands (map operand_by_side es))) where
    word_stands : IsEvalWordRun us p (plain_eval_word is.1 ∷ [])
    word_stands = subst (IsEvalWordRun us p) only_word here

    -- the place is within the words
    pub multiple_within : p < length us
    multiple_within = first_eval_word_within us p (plain_eval_word is.1) [] word_stands

    -- the meaning that is reported for the place
    module _ (means : WordUse → EvalMeaning) (has : ℕ → Bool) (callee : ℕ → Callable) (t : ReportedMeaning)
        (reports : (u : WordUse) → slice_get us p ≡ Some u → IsReportedEvalMeaning has callee (means u) t) where
      -- the meaning that is reported for the place is that of the word
      word_is_reported : IsReportedEvalMeaning has callee (means (plain_eval_word is.1)) t
      word_is_reported = reports (plain_eval_word is.1)
          (first_eval_word_at_run us p (plain_eval_word is.1) [] word_stands)

      -- the reported meaning is usable
      pub multiple_usable : IsUsableEvalMeaning has t
      multiple_usable = reported_eval_meaning_is_usable has callee (means (plain_eval_word is.1)) t word_is_reported

      -- a result for the number and the word is a result for the members
      pub multiple_gives : (a : Option Amount) {A : Type 0} (seen : A → Amount) (r : Result A EvalFault)
          → GivesValueOrFault seen r (word_multiple_value (factor_number_value f) (reported_word_value callee t))
          → GivesValueOrFault seen r (value (chain means (map operand_by_side es)) a)
      multiple_gives a seen r =
          subst (GivesValueOrFault seen r) (sym (product_multiple_value means es (factor_number_value f) a is
          ∙ ap (word_multiple_value (factor_number_value f))
          (reported_plain_word_value has callee (means (plain_eval_word is.1)) t a word_is_reported)))

two_operands : (es : List Syntax) (e f : Syntax) → length es ≡ 2 → slice_get es 0 ≡ Some e → slice_get es 1 ≡ Some f
    → es ≡ e ∷ f ∷ []
two_operands [] e f n p q = cc
two_operands (x ∷ []) e f n p q = cc
two_operands (x ∷ y ∷ []) e f n p q = cc
two_operands (x ∷ y ∷ z ∷ zs) e f n p q = cc

-- two members, of which the first states a number and the second is a word, are a multiple
pub two_operands_are_multiple : (es : List Syntax) (e : Syntax) (w : List ℕ) → length es ≡ 2 → slice_get es 0 ≡ Some e
    → slice_get es 1 ≡ Some (Word w) → (x : Option Factor) → IfSome x (λ _. words_in e ≡ [])
    → IfSome x (λ f. HasNumberValue e (factor_number_value f))
    → IfSome x (λ f. IsOperandMultiple es (factor_number_value f))
two_operands_are_multiple es e w n p q None h s = tt
two_operands_are_multiple es e w n p q (Some x) h s = (e, w, two_operands es e (Word w) n p q, h, s)
