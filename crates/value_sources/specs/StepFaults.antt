-- The fault of a step that has no value.
use Rattle.std.specs.Prelude.{◌≡◌, Some, Ok, Err}
use Rattle.expr_tree.specs.Syntax.{Syntax}
use Rattle.quantity.specs.Amount.{Amount}
use Rattle.quantity.specs.Powers.{quantity_power}
use Rattle.def_entry.specs.Tables.{EntryTable}
use Rattle.tree_eval.specs.declared.fault.ValueFault.{ValueFault}
use Rattle.tree_eval.specs.Expansions.{Callee, EvalMeaning, One, Two}
use Rattle.tree_eval.specs.Expansion.{called_eval_word, inverted_eval_word}
use Rattle.tree_eval.specs.Steps.{ValueOrFault, operand_step_value, root_value, value_of_quantity_step, value_one}
use Rattle.tree_eval.specs.Value.{value_at}
use Rattle.table_names.specs.Kinds.{TableNamesFitKinds}
use Rattle.table_names.specs.Meanings.{word_meaning}
use Rattle.live_table.specs.Answers.{live_inverse_value, live_table_answer}
use Rattle.live_table.specs.declared.fault.QueryFault.TheVariants.{Value}
use Rattle.value_sources.specs.declared.failure.FailedStep.{FailedStep}
use Rattle.value_sources.specs.declared.failure.FailedStep.TheVariants.{Called, Inverted, Joined, Raised, Rooted}
use Rattle.value_sources.specs.FailedSteps.{failed_step}

-- the result of a function at an argument. The word of a failed step has no other meaning
abbrev pub failed_step_call_at : EvalMeaning → Amount → ValueOrFault
failed_step_call_at (Callee f) a = value_at f a
failed_step_call_at (One x) a = Ok value_one
failed_step_call_at (Two x y) a = Ok value_one

-- the result of a step, by the values of its operands
abbrev pub failed_step_result : EntryTable → FailedStep → ValueOrFault
failed_step_result table (Joined step x y) = operand_step_value step x y
failed_step_result table (Raised x y) = value_of_quantity_step (quantity_power x y)
failed_step_result table (Rooted kind x) = root_value kind x
failed_step_result table (Called w x) = failed_step_call_at (word_meaning table (called_eval_word w)) x
failed_step_result table (Inverted w x) = live_inverse_value (word_meaning table (inverted_eval_word w)) x

-- law: if an expression has a value fault and a failed step, that fault is the fault of the step. The table of each
-- deck fits kinds
abbrev pub FailedStepLaw : Type 0
FailedStepLaw = (table : EntryTable) → TableNamesFitKinds table → (e : Syntax) (fault : ValueFault) (step : FailedStep)
    → live_table_answer table e ≡ Err (Value fault) → failed_step table e ≡ Some step
    → failed_step_result table step ≡ Err fault
