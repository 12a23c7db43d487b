-- The step at which an expression has no value, with the values of its operands.
use Rattle.std.specs.Prelude.{Bool, true, false, List, [], ◌∷◌, Option, Some, None, Result, Ok, Err, if◌then◌else◌}
use Rattle.frac128.specs.Decimals.{fraction_of_decimal}
use Rattle.frac128.specs.Fraction.{Fraction}
use Rattle.frac128.specs.declared.fault.FracFault.{FracFault}
use Rattle.expr_tree.specs.declared.word_list.WordUse.{WordUse}
use Rattle.expr_tree.specs.Syntax.{Syntax, Number, Bar, Word, Argument, Call, Inverse, Root, Group, Negate, Power}
use Rattle.expr_tree.specs.Syntax.{Juxtaposed, Product, Sum}
use Rattle.expr_tree.specs.Syntax.{Members, NoMember, Member, Factors, NoFactor, Factor, Terms, NoTerm, Term}
use Rattle.quantity.specs.Amount.{Amount}
use Rattle.quantity.specs.declared.fault.QuantityFault.{QuantityFault}
use Rattle.def_entry.specs.declared.key.Key.{Key}
use Rattle.def_entry.specs.declared.key.Kind.{Kind}
use Rattle.def_entry.specs.declared.key.Kind.TheVariants as kind
use Rattle.def_entry.specs.Tables.{EntryTable}
use Rattle.tree_eval.specs.declared.step.Step.{Step}
use Rattle.tree_eval.specs.declared.step.Step.TheVariants.{Multiply, Divide}
use Rattle.tree_eval.specs.Expansion.{called_eval_word, inverted_eval_word, scale_operand_step, sign_operand_step}
use Rattle.tree_eval.specs.Steps.{operand_step, plain_number_value}
use Rattle.table_names.specs.Leads.{table_word_targets}
use Rattle.live_table.specs.Answers.{live_answer_value, live_table_answer}
use Rattle.value_sources.specs.declared.failure.FailedStep.{FailedStep}
use Rattle.value_sources.specs.declared.failure.FailedStep.TheVariants.{Called, Inverted, Joined, Raised, Rooted}

-- the value of an expression, if a query of it alone answers with one
unfoldable pub source_value_of_tree : EntryTable → Syntax → Option Amount
source_value_of_tree table e = live_answer_value (live_table_answer table e)

abbrev pub is_source_function_kind : Kind → Bool
is_source_function_kind kind.Func = true
is_source_function_kind _ = false

-- whether these keys are a single function
abbrev pub are_source_function : List Key → Bool
are_source_function (n ∷ []) = is_source_function_kind n.kind
are_source_function _ = false

-- whether a word leads to a function
unfoldable pub is_source_function_word : EntryTable → WordUse → Bool
is_source_function_word table u = are_source_function (table_word_targets table u)

-- the failed step from a member on: the one inside the member if it has no value, or else the one after its value
abbrev pub failed_step_after : Option Amount → (inside : Option FailedStep) → (Amount → Option FailedStep)
    → Option FailedStep
failed_step_after None inside next = inside
failed_step_after (Some v) inside next = next v

-- the step from a running value to one more member if it has no value, or else the failed step after it
abbrev pub failed_step_unless_joined : Step → (left right : Amount) → Result Amount QuantityFault
    → (Amount → Option FailedStep)
    → Option FailedStep
failed_step_unless_joined step left right (Ok v) next = next v
failed_step_unless_joined step left right (Err fault) next = Some (Joined step left right)

-- the failed step from one more member on: the first member is the running value, and each further one is joined to it
abbrev pub failed_step_of_join : Step → (running : Option Amount) → Amount → (Amount → Option FailedStep)
    → Option FailedStep
failed_step_of_join step None right next = next right
failed_step_of_join step (Some left) right next = failed_step_unless_joined step left right
    (operand_step step left right) next

-- the failed step of the product of a word that is no function and its operand, by their values
abbrev pub failed_step_of_product : (word operand : Option Amount) → (inside : Option FailedStep) → Option FailedStep
failed_step_of_product word operand inside =
    failed_step_after word None (λ left. failed_step_after operand inside (λ right. Some (Joined Multiply left right)))

-- the quotient of two numerals that each have a value
abbrev pub failed_step_of_quotient : Result Fraction FracFault → Result Fraction FracFault → Option FailedStep
failed_step_of_quotient (Ok x) (Ok y) = Some (Joined Divide (plain_number_value x) (plain_number_value y))
failed_step_of_quotient _ _ = None

-- is_function: whether a word is a function; value: the value of an expression, if it has one
module _ (is_function : WordUse → Bool) (value : Syntax → Option Amount) where
  abbrev mutual
    -- the first step of an expression, from left to right, that has no value although its operands have values; None
    -- if there is no such step, because a word has no value or a numeral is out of range. The expression has no value
    pub step_failed_in : Syntax → Option FailedStep
    step_failed_in (Number x) = None
    step_failed_in (Bar x y) = failed_step_of_quotient (fraction_of_decimal x) (fraction_of_decimal y)
    step_failed_in (Word w) = None
    step_failed_in Argument = None
    step_failed_in (Call w e) =
        if is_function (called_eval_word w) then failed_step_after (value e) (step_failed_in e) (λ v. Some (Called w v))
        else failed_step_of_product (value (Word w)) (value e) (step_failed_in e)
    step_failed_in (Inverse w e) =
        if is_function (inverted_eval_word w) then failed_step_after (value e) (step_failed_in e)
        (λ v. Some (Inverted w v))
        else failed_step_of_product (value (Word w)) (value e) (step_failed_in e)
    step_failed_in (Root kind e) = failed_step_after (value e) (step_failed_in e) (λ v. Some (Rooted kind v))
    step_failed_in (Group e) = step_failed_in e
    step_failed_in (Negate e) = step_failed_in e
    step_failed_in (Power e f) =
        failed_step_after (value e) (step_failed_in e)
        (λ base. failed_step_after (value f) (step_failed_in f) (λ exponent. Some (Raised base exponent)))
    step_failed_in (Juxtaposed es) = failed_members None es
    step_failed_in (Product fs) = failed_factors None fs
    step_failed_in (Sum ts) = failed_terms None ts

    -- the failed step of the members of a list after a running value
    pub failed_members : (running : Option Amount) → Members → Option FailedStep
    failed_members running NoMember = None
    failed_members running (Member e es) =
        failed_step_after (value e) (step_failed_in e)
        (λ v. failed_step_of_join Multiply running v (λ next. failed_members (Some next) es))

    pub failed_factors : (running : Option Amount) → Factors → Option FailedStep
    failed_factors running NoFactor = None
    failed_factors running (Factor scale e fs) =
        failed_step_after (value e) (step_failed_in e)
        (λ v. failed_step_of_join (scale_operand_step scale) running v (λ next. failed_factors (Some next) fs))

    pub failed_terms : (running : Option Amount) → Terms → Option FailedStep
    failed_terms running NoTerm = None
    failed_terms running (Term sign e ts) =
        failed_step_after (value e) (step_failed_in e)
        (λ v. failed_step_of_join (sign_operand_step sign) running v (λ next. failed_terms (Some next) ts))

-- the step at which an expression has no value
abbrev pub failed_step : EntryTable → Syntax → Option FailedStep
failed_step table e = step_failed_in (is_source_function_word table) (source_value_of_tree table) e
