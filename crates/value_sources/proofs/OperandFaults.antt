-- The fault of an operand, or of the step that follows it.
use Rattle.std.proofs.Common.{◌≡◌, ℕ, List, Option, Some, None, Result, Ok, Err, refl, sym, ap, ◌∙◌, subst}
use Rattle.std.specs.FinMap as map_of
use Rattle.std.proofs.lemmas.Option.{same_Some}
use Rattle.units_io.specs.Outcomes.{◌>>=◌}
use Rattle.frac128.specs.Fraction.{Fraction}
use Rattle.frac128.specs.Steps.{fraction_quotient}
use Rattle.frac128.specs.declared.fault.FracFault.{FracFault}
use Rattle.expr_tree.specs.Syntax as tree
use Rattle.expr_tree.specs.Syntax.{Syntax}
use Rattle.expr_tree.specs.Words.{words_in}
use Rattle.quantity.specs.Amount.{Amount}
use Rattle.quantity.specs.Answers.{quantity_from}
use Rattle.quantity.specs.Products.{quantity_quotient, quotient_exponents}
use Rattle.quantity.specs.declared.fault.QuantityFault.{QuantityFault}
use Rattle.def_entry.specs.Tables.{EntryTable}
use Rattle.tree_eval.specs.declared.fault.ValueFault.{ValueFault}
use Rattle.tree_eval.specs.declared.step.Step.{Step}
use Rattle.tree_eval.specs.declared.step.Step.TheVariants.{Divide, Multiply}
use Rattle.tree_eval.specs.Expansions.{Callee, Chain, EvalMeaning, Expanded, Link, NoLink, One, Two}
use Rattle.tree_eval.specs.Expansion.{eval_meaning_expansion, operand_call_expansion}
use Rattle.tree_eval.specs.Steps.{ValueOrFault, negative_value, operand_step, operand_step_value, plain_number_value}
use Rattle.tree_eval.specs.Steps.{value_of_number, value_of_quantity_step}
use Rattle.tree_eval.specs.Value.{chain_value, value}
use Rattle.table_names.specs.ClosedKeys.{AreClosedWords}
use Rattle.table_names.specs.Meanings.{expansion}
use Rattle.value_sources.specs.declared.failure.FailedStep.{FailedStep}
use Rattle.value_sources.specs.declared.failure.FailedStep.TheVariants.{Joined}
use Rattle.value_sources.specs.FailedSteps.{failed_step_after, failed_step_of_product, failed_step_of_quotient}
use Rattle.value_sources.specs.FailedSteps.{is_source_function_word, failed_step_unless_joined, step_failed_in}
use Rattle.value_sources.specs.FailedSteps.{source_value_of_tree}
use Rattle.value_sources.specs.StepFaults.{failed_step_result}
use Rattle.value_sources.proofs.FunctionWords.{closed_value, value_without_fault}

-- the fault of an operand and a step after it, by whether the operand has a value
module _ {G : Type 0} (found : FailedStep) (fault : ValueFault) where
  after_fault : (r : ValueOrFault) (k : Amount → ValueOrFault) (o : Option Amount) (inside : Option FailedStep)
      (next : Amount → Option FailedStep) → o ≡ value_without_fault r
      → (inside ≡ Some found → r ≡ Err fault → G)
      → ((v : Amount) → next v ≡ Some found → k v ≡ Err fault → G)
      → failed_step_after o inside next ≡ Some found → (r >>= k) ≡ Err fault → G
  after_fault (Ok v) k o inside next e within further is fails =
      further v (sym (ap (λ (q : Option Amount). failed_step_after q inside next) e) ∙ is) fails
  after_fault (Err f) k o inside next e within further is fails =
      within (sym (ap (λ (q : Option Amount). failed_step_after q inside next) e) ∙ is) fails

pub failing_opposite_step_fault : (r : ValueOrFault) (fault : ValueFault)
    → (r >>= (λ v. Ok (negative_value v))) ≡ Err fault
    → r ≡ Err fault
failing_opposite_step_fault (Ok v) fault e = cc
failing_opposite_step_fault (Err f) fault e = e

failing_step_same_value : (r : ValueOrFault) → r ≡ (r >>= (λ v. Ok v))
failing_step_same_value (Ok v) = refl
failing_step_same_value (Err f) = refl

module _ (t : EntryTable) (found : FailedStep) (fault : ValueFault) where
  abbrev pub HasFault : Type 0
  HasFault = failed_step_result t found ≡ Err fault

  -- a step that was found, by the fault that it has
  pub found_fault : (s : FailedStep) → Some s ≡ Some found → failed_step_result t s ≡ Err fault → HasFault
  found_fault s is fails = subst (λ (p : FailedStep). failed_step_result t p ≡ Err fault) (same_Some s found is) fails

  quotient_fault : (x y : Fraction) (r : Result Fraction FracFault) → fraction_quotient x y ≡ r
      → value_of_number r ≡ Err fault
      → value_of_quantity_step (quantity_quotient (plain_number_value x) (plain_number_value y)) ≡ Err fault
  quotient_fault x y (Ok z) e fails = cc
  quotient_fault x y (Err f) e fails =
      ap (λ (r : Result Fraction FracFault).
      value_of_quantity_step (quantity_from r (quotient_exponents map_of.empty map_of.empty))) e
      ∙ fails

  pub bar_fault : (a b : Result Fraction FracFault) → failed_step_of_quotient a b ≡ Some found
      → value_of_number (a >>= (λ x. b >>= (λ y. fraction_quotient x y))) ≡ Err fault → HasFault
  bar_fault (Ok x) (Ok y) is fails =
      found_fault (Joined Divide (plain_number_value x) (plain_number_value y)) is
      (quotient_fault x y (fraction_quotient x y) refl fails)
  bar_fault (Ok x) (Err f) is fails = cc
  bar_fault (Err f) (Ok y) is fails = cc
  bar_fault (Err f) (Err g) is fails = cc

  joined_fault : (s : Step) (v w : Amount) (r : Result Amount QuantityFault) (rest : Amount → Option FailedStep)
      (k : Amount → ValueOrFault) → operand_step s v w ≡ r
      → ((next : Amount) → rest next ≡ Some found → k next ≡ Err fault → HasFault)
      → failed_step_unless_joined s v w r rest ≡ Some found → (value_of_quantity_step r >>= k) ≡ Err fault → HasFault
  joined_fault s v w (Ok next) rest k e further is fails = further next is fails
  joined_fault s v w (Err f) rest k e further is fails = found_fault (Joined s v w) is
      (ap value_of_quantity_step e ∙ fails)

  -- an expression and the step after its value
  module _ (e : Syntax) (closed : AreClosedWords t (words_in e))
      (within : step_failed_in (is_source_function_word t) (source_value_of_tree t) e ≡ Some found
      → value (expansion t e) None ≡ Err fault
      → HasFault) where
    pub operand_fault : (next : Amount → Option FailedStep) (k : Amount → ValueOrFault)
        → ((v : Amount) → next v ≡ Some found → k v ≡ Err fault → HasFault)
        → failed_step_after (source_value_of_tree t e)
        (step_failed_in (is_source_function_word t) (source_value_of_tree t) e) next ≡ Some found
        → (value (expansion t e) None >>= k) ≡ Err fault → HasFault
    operand_fault next k further is fails =
        after_fault found fault (value (expansion t e) None) k (source_value_of_tree t e)
        (step_failed_in (is_source_function_word t) (source_value_of_tree t) e) next (closed_value t e closed) within
        further is fails

    -- the same of one more member
    pub link_fault : (s : Step) (v : Amount) (rest : Amount → Option FailedStep) (k : Amount → ValueOrFault)
        → ((next : Amount) → rest next ≡ Some found → k next ≡ Err fault → HasFault)
        → failed_step_after (source_value_of_tree t e)
        (step_failed_in (is_source_function_word t) (source_value_of_tree t) e)
        (λ w. failed_step_unless_joined s v w (operand_step s v w) rest) ≡ Some found
        → (value (expansion t e) None >>= (λ w. operand_step_value s v w >>= k)) ≡ Err fault → HasFault
    link_fault s v rest k further is fails =
        operand_fault (λ w. failed_step_unless_joined s v w (operand_step s v w) rest)
        (λ w. operand_step_value s v w >>= k)
        (λ w i n. joined_fault s v w (operand_step s v w) rest k refl further i n) is fails

    -- a word that is no function and its operand
    chain_fault : (word : List ℕ) (x : Expanded) → source_value_of_tree t (tree.Word word) ≡ value_without_fault
        (value x None)
        → failed_step_of_product (source_value_of_tree t (tree.Word word)) (source_value_of_tree t e)
        (step_failed_in (is_source_function_word t) (source_value_of_tree t) e) ≡ Some found
        → value (Chain x (Link Multiply (expansion t e) NoLink)) None ≡ Err fault → HasFault
    chain_fault word x h is fails =
        after_fault found fault (value x None) (λ v. chain_value v (Link Multiply (expansion t e) NoLink) None)
        (source_value_of_tree t (tree.Word word)) None
        (λ left. failed_step_after (source_value_of_tree t e)
        (step_failed_in (is_source_function_word t) (source_value_of_tree t) e)
        (λ right. Some (Joined Multiply left right))) h (λ none _. absurd (no_step none))
        (λ left i n. operand_fault (λ right. Some (Joined Multiply left right))
        (λ w. operand_step_value Multiply left w >>= (λ next. Ok next))
        (λ right j m. found_fault (Joined Multiply left right) j
        (failing_step_same_value (operand_step_value Multiply left right) ∙ m)) i n)
        is fails
      where
        no_step : None ≡ Some found → ⊥
        no_step q = cc

    pub product_fault : (word : List ℕ) (m : EvalMeaning)
        → source_value_of_tree t (tree.Word word) ≡ value_without_fault (value (eval_meaning_expansion m) None)
        → failed_step_of_product (source_value_of_tree t (tree.Word word)) (source_value_of_tree t e)
        (step_failed_in (is_source_function_word t) (source_value_of_tree t) e) ≡ Some found
        → value (operand_call_expansion m (expansion t e)) None ≡ Err fault → HasFault
    product_fault word (One x) h is fails = chain_fault word (eval_meaning_expansion (One x)) h is fails
    product_fault word (Two x y) h is fails = chain_fault word (eval_meaning_expansion (Two x y)) h is fails
    product_fault word (Callee f) h is fails =
        let none : None ≡ Some found =
        sym (ap (λ (o : Option Amount). failed_step_of_product o (source_value_of_tree t e)
        (step_failed_in (is_source_function_word t) (source_value_of_tree t) e)) h) ∙ is in
        cc
