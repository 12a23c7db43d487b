-- The fault of a failed step is that of its expression.
use Rattle.std.proofs.Common.{◌≡◌, ◌∷◌, [], ℕ, List, Bool, true, false, Option, Some, None, Ok, Err, refl, sym, ap, ◌∙◌}
use Rattle.std.specs.Prelude.{if◌then◌else◌}
use Rattle.units_io.specs.Outcomes.{◌>>=◌}
use Rattle.frac128.specs.Decimals.{fraction_of_decimal}
use Rattle.expr_tree.specs.Syntax as tree
use Rattle.expr_tree.specs.Syntax.{Syntax, Members, NoMember, Member, Factors, NoFactor, Factor, Terms, NoTerm, Term}
use Rattle.expr_tree.specs.Words.{words_in, words_in_factors, words_in_members, words_in_terms}
use Rattle.quantity.specs.Amount.{Amount}
use Rattle.quantity.specs.Powers.{quantity_power}
use Rattle.def_entry.specs.Tables.{EntryTable}
use Rattle.tree_eval.specs.declared.fault.ValueFault.{ValueFault}
use Rattle.tree_eval.specs.declared.step.Step.TheVariants.{Multiply}
use Rattle.tree_eval.specs.Expansions.{EvalMeaning}
use Rattle.tree_eval.specs.Expansion.{called_eval_word, factor_links, inverted_eval_word, operand_call_expansion}
use Rattle.tree_eval.specs.Expansion.{operand_inverse_expansion, member_links, scale_operand_step, sign_operand_step}
use Rattle.tree_eval.specs.Expansion.{term_links}
use Rattle.tree_eval.specs.Steps.{ValueOrFault, root_value, value_of_quantity_step}
use Rattle.tree_eval.specs.Value.{chain_value, inverse_value_at, value, value_at}
use Rattle.table_names.specs.declared.fault.NameFault.{NameFault}
use Rattle.table_names.specs.ClosedKeys.{AreClosedWords, IsClosedKey, TableWordLeadsInto}
use Rattle.table_names.specs.ClosedLaws.{ClosedWordLaw}
use Rattle.table_names.specs.Faults.{name_fault}
use Rattle.table_names.specs.Kinds.{MeaningKindLaw, TableNamesFitKinds}
use Rattle.table_names.specs.Meanings.{expansion, word_meaning}
use Rattle.live_table.specs.Answers.{live_answer_of_value, live_inverse_value}
use Rattle.live_table.specs.declared.fault.QueryFault.TheVariants.{Value}
use Rattle.value_sources.specs.declared.failure.FailedStep.{FailedStep}
use Rattle.value_sources.specs.declared.failure.FailedStep.TheVariants.{Called, Inverted, Raised, Rooted}
use Rattle.value_sources.specs.FailedSteps.{failed_factors, failed_members, failed_step_after, failed_terms}
use Rattle.value_sources.specs.FailedSteps.{step_failed_in}
use Rattle.value_sources.specs.FailedSteps.{failed_step_of_product, is_source_function_word, source_value_of_tree}
use Rattle.value_sources.specs.StepFaults.{FailedStepLaw, failed_step_call_at}
use Rattle.value_sources.proofs.FunctionWords.{closed_left, closed_right, first_leads, function_meaning}
use Rattle.value_sources.proofs.FunctionWords.{no_inverse_targets, plain_value}
use Rattle.value_sources.proofs.OperandFaults.{HasFault, bar_fault, found_fault, link_fault, operand_fault}
use Rattle.value_sources.proofs.OperandFaults.{failing_opposite_step_fault, product_fault}

module _ (closing : ClosedWordLaw) (kinds : MeaningKindLaw) (t : EntryTable) (fits : TableNamesFitKinds t)
    (found : FailedStep)
    (fault : ValueFault) where
  module _ (w : List ℕ) (e : Syntax) (closed : AreClosedWords t (words_in e))
      (within : step_failed_in (is_source_function_word t) (source_value_of_tree t) e ≡ Some found
      → value (expansion t e) None ≡ Err fault → HasFault t found fault) where
    call_fault : (b : Bool) → is_source_function_word t (called_eval_word w) ≡ b → TableWordLeadsInto t (IsClosedKey t)
        (called_eval_word w)
        → (if b then failed_step_after (source_value_of_tree t e)
        (step_failed_in (is_source_function_word t) (source_value_of_tree t) e)
        (λ v. Some (Called w v))
        else failed_step_of_product (source_value_of_tree t (tree.Word w)) (source_value_of_tree t e)
        (step_failed_in (is_source_function_word t) (source_value_of_tree t) e)) ≡ Some found
        → value (operand_call_expansion (word_meaning t (called_eval_word w)) (expansion t e)) None ≡ Err fault
        → HasFault t found fault
    call_fault true h leads is fails =
        let m = function_meaning closing kinds t fits (called_eval_word w) leads h in
        operand_fault t found fault e closed within (λ v. Some (Called w v)) (λ v. value_at m.0 v)
        (λ v i n. found_fault t found fault (Called w v) i (ap (λ (k : EvalMeaning). failed_step_call_at k v) m.1 ∙ n))
        is
        (sym (ap (λ (k : EvalMeaning). value (operand_call_expansion k (expansion t e)) None) m.1) ∙ fails)
    call_fault false h leads is fails =
        product_fault t found fault e closed within w (word_meaning t (called_eval_word w))
        (plain_value closing kinds t fits w h leads) is
        fails

    inverse_fault : (b : Bool) → is_source_function_word t (inverted_eval_word w) ≡ b
        → TableWordLeadsInto t (IsClosedKey t) (inverted_eval_word w)
        → (if b then failed_step_after (source_value_of_tree t e)
        (step_failed_in (is_source_function_word t) (source_value_of_tree t) e)
        (λ v. Some (Inverted w v))
        else failed_step_of_product (source_value_of_tree t (tree.Word w)) (source_value_of_tree t e)
        (step_failed_in (is_source_function_word t) (source_value_of_tree t) e)) ≡ Some found
        → value (operand_inverse_expansion (word_meaning t (inverted_eval_word w)) (expansion t e)) None ≡ Err fault
        → HasFault t found fault
    inverse_fault true h leads is fails =
        let m = function_meaning closing kinds t fits (inverted_eval_word w) leads h in
        operand_fault t found fault e closed within (λ v. Some (Inverted w v)) (λ v. inverse_value_at m.0 v)
        (λ v i n. found_fault t found fault (Inverted w v) i (ap (λ (k : EvalMeaning). live_inverse_value k v) m.1 ∙ n))
        is
        (sym (ap (λ (k : EvalMeaning). value (operand_inverse_expansion k (expansion t e)) None) m.1) ∙ fails)
    inverse_fault false h leads is fails = absurd (leads.has_targets (no_inverse_targets t w h))

  mutual
    tree_fault : (e : Syntax) → AreClosedWords t (words_in e)
        → step_failed_in (is_source_function_word t) (source_value_of_tree t) e ≡ Some found
        → value (expansion t e) None ≡ Err fault
        → HasFault t found fault
    tree_fault (tree.Number x) c is fails = cc
    tree_fault (tree.Bar x y) c is fails = bar_fault t found fault (fraction_of_decimal x) (fraction_of_decimal y) is
        fails
    tree_fault (tree.Word w) c is fails = cc
    tree_fault tree.Argument c is fails = cc
    tree_fault (tree.Call w e) c is fails =
        let closed = closed_right closing kinds t fits (called_eval_word w ∷ []) (words_in e) c in
        call_fault w e closed (tree_fault e closed) (is_source_function_word t (called_eval_word w)) refl
        (first_leads closing kinds t fits (called_eval_word w) (words_in e) c) is fails
    tree_fault (tree.Inverse w e) c is fails =
        let closed = closed_right closing kinds t fits (inverted_eval_word w ∷ []) (words_in e) c in
        inverse_fault w e closed (tree_fault e closed) (is_source_function_word t (inverted_eval_word w)) refl
        (first_leads closing kinds t fits (inverted_eval_word w) (words_in e) c) is fails
    tree_fault (tree.Root kind e) c is fails =
        operand_fault t found fault e c (tree_fault e c) (λ v. Some (Rooted kind v)) (λ v. root_value kind v)
        (λ v i n. found_fault t found fault (Rooted kind v) i n) is fails
    tree_fault (tree.Group e) c is fails = tree_fault e c is fails
    tree_fault (tree.Negate e) c is fails =
        tree_fault e c is (failing_opposite_step_fault (value (expansion t e) None) fault fails)
    tree_fault (tree.Power e f) c is fails =
        let left = closed_left closing kinds t fits (words_in e) (words_in f) c in
        let right = closed_right closing kinds t fits (words_in e) (words_in f) c in
        operand_fault t found fault e left (tree_fault e left)
        (λ b. failed_step_after (source_value_of_tree t f)
        (step_failed_in (is_source_function_word t) (source_value_of_tree t) f)
        (λ p. Some (Raised b p)))
        (λ b. value (expansion t f) None >>= (λ p. value_of_quantity_step (quantity_power b p)))
        (λ b i n. operand_fault t found fault f right (tree_fault f right) (λ p. Some (Raised b p))
        (λ p. value_of_quantity_step (quantity_power b p)) (λ p j m. found_fault t found fault (Raised b p) j m) i n) is
        fails
    tree_fault (tree.Juxtaposed NoMember) c is fails = cc
    tree_fault (tree.Juxtaposed (Member e es)) c is fails =
        let left = closed_left closing kinds t fits (words_in e) (words_in_members es) c in
        operand_fault t found fault e left (tree_fault e left)
        (λ v. failed_members (is_source_function_word t) (source_value_of_tree t) (Some v) es)
        (λ v. chain_value v (member_links (word_meaning t) es) None)
        (λ v i n. members_fault es v (closed_right closing kinds t fits (words_in e) (words_in_members es) c) i n) is
        fails
    tree_fault (tree.Product NoFactor) c is fails = cc
    tree_fault (tree.Product (Factor s e fs)) c is fails =
        let left = closed_left closing kinds t fits (words_in e) (words_in_factors fs) c in
        operand_fault t found fault e left (tree_fault e left)
        (λ v. failed_factors (is_source_function_word t) (source_value_of_tree t) (Some v) fs)
        (λ v. chain_value v (factor_links (word_meaning t) fs) None)
        (λ v i n. factors_fault fs v (closed_right closing kinds t fits (words_in e) (words_in_factors fs) c) i n) is
        fails
    tree_fault (tree.Sum NoTerm) c is fails = cc
    tree_fault (tree.Sum (Term s e ts)) c is fails =
        let left = closed_left closing kinds t fits (words_in e) (words_in_terms ts) c in
        operand_fault t found fault e left (tree_fault e left)
        (λ v. failed_terms (is_source_function_word t) (source_value_of_tree t) (Some v) ts)
        (λ v. chain_value v (term_links (word_meaning t) ts) None)
        (λ v i n. terms_fault ts v (closed_right closing kinds t fits (words_in e) (words_in_terms ts) c) i n) is fails

    -- the same of further members after a running value
    members_fault : (es : Members) (v : Amount) → AreClosedWords t (words_in_members es)
        → failed_members (is_source_function_word t) (source_value_of_tree t) (Some v) es ≡ Some found
        → chain_value v (member_links (word_meaning t) es) None ≡ Err fault → HasFault t found fault
    members_fault NoMember v c is fails = cc
    members_fault (Member e es) v c is fails =
        let left = closed_left closing kinds t fits (words_in e) (words_in_members es) c in
        link_fault t found fault e left (tree_fault e left) Multiply v
        (λ next. failed_members (is_source_function_word t) (source_value_of_tree t) (Some next) es)
        (λ next. chain_value next (member_links (word_meaning t) es) None)
        (λ next i n. members_fault es next (closed_right closing kinds t fits (words_in e) (words_in_members es) c) i n)
        is fails

    factors_fault : (fs : Factors) (v : Amount) → AreClosedWords t (words_in_factors fs)
        → failed_factors (is_source_function_word t) (source_value_of_tree t) (Some v) fs ≡ Some found
        → chain_value v (factor_links (word_meaning t) fs) None ≡ Err fault → HasFault t found fault
    factors_fault NoFactor v c is fails = cc
    factors_fault (Factor s e fs) v c is fails =
        let left = closed_left closing kinds t fits (words_in e) (words_in_factors fs) c in
        link_fault t found fault e left (tree_fault e left) (scale_operand_step s) v
        (λ next. failed_factors (is_source_function_word t) (source_value_of_tree t) (Some next) fs)
        (λ next. chain_value next (factor_links (word_meaning t) fs) None)
        (λ next i n. factors_fault fs next (closed_right closing kinds t fits (words_in e) (words_in_factors fs) c) i n)
        is fails

    terms_fault : (ts : Terms) (v : Amount) → AreClosedWords t (words_in_terms ts)
        → failed_terms (is_source_function_word t) (source_value_of_tree t) (Some v) ts ≡ Some found
        → chain_value v (term_links (word_meaning t) ts) None ≡ Err fault → HasFault t found fault
    terms_fault NoTerm v c is fails = cc
    terms_fault (Term s e ts) v c is fails =
        let left = closed_left closing kinds t fits (words_in e) (words_in_terms ts) c in
        link_fault t found fault e left (tree_fault e left) (sign_operand_step s) v
        (λ next. failed_terms (is_source_function_word t) (source_value_of_tree t) (Some next) ts)
        (λ next. chain_value next (term_links (word_meaning t) ts) None)
        (λ next i n. terms_fault ts next (closed_right closing kinds t fits (words_in e) (words_in_terms ts) c) i n) is
        fails

-- an answer that is a value fault comes of no name fault
failed_step_answer_fault : (o : Option NameFault) (r : ValueOrFault) (fault : ValueFault)
    → live_answer_of_value o r ≡ Err (Value fault)
    → (o ≡ None) × (r ≡ Err fault)
failed_step_answer_fault None (Ok v) fault e = cc
failed_step_answer_fault None (Err f) fault e = let same : f ≡ fault = cc in (refl, ap Err same)
failed_step_answer_fault (Some n) r fault e = cc

pub fault_of_failed_step : ClosedWordLaw → MeaningKindLaw → FailedStepLaw
fault_of_failed_step closing kinds t fits e fault found fails is =
    let answered = failed_step_answer_fault (name_fault t (words_in e)) (value (expansion t e) None) fault fails in
    tree_fault closing kinds t fits found fault e answered.0 is answered.1
