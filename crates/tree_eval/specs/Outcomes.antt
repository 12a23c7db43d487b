-- The outcomes of names.
use Rattle.std.specs.Prelude.{None, Ok, Err}
use Rattle.tree_eval.specs.declared.outcome.Outcome.{Outcome}
use Rattle.tree_eval.specs.declared.outcome.Outcome.TheVariants as outcome
use Rattle.tree_eval.specs.Expansions.{EvalMeaning, One, Two, Callee, Prefixed}
use Rattle.tree_eval.specs.Steps.{ValueOrFault, value_one}
use Rattle.tree_eval.specs.Value.{value}

-- the outcome that stores a value or a fault
abbrev pub outcome_of_value : ValueOrFault → Outcome
outcome_of_value (Ok q) = outcome.Value q
outcome_of_value (Err fault) = outcome.Fault fault

-- the outcome of a meaning
abbrev pub outcome_of_eval_meaning : EvalMeaning → Outcome
outcome_of_eval_meaning (One x) = outcome_of_value (value x None)
outcome_of_eval_meaning (Two x y) = outcome_of_value (value (Prefixed x y) None)
outcome_of_eval_meaning (Callee f) = outcome.Callable

-- the value or the fault of an outcome that is not `Callable`
abbrev pub value_in_outcome : Outcome → ValueOrFault
value_in_outcome (outcome.Value q) = Ok q
value_in_outcome (outcome.Fault fault) = Err fault
value_in_outcome outcome.Callable = Ok value_one
