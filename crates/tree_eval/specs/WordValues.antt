-- The value of a word by its reported meaning, and how the value is stored.
use Rattle.std.specs.Prelude.{◌≡◌, ◌≢◌, ℕ, Bool, IsTrue, Result, Ok, Err, ⊤}
use Rattle.quantity.specs.Amount.{Amount}
use Rattle.quantity.specs.Products.{quantity_product}
use Rattle.tree_eval.specs.declared.fault.EvalFault.{EvalFault}
use Rattle.tree_eval.specs.declared.fault.EvalFault.TheVariants as answer
use Rattle.tree_eval.specs.declared.fault.ValueFault.TheVariants.{NeedsArgument}
use Rattle.tree_eval.specs.declared.meaning.Meaning.{Meaning}
use Rattle.tree_eval.specs.declared.meaning.Meaning.TheVariants.{One, Two, Function}
use Rattle.tree_eval.specs.declared.outcome.Outcome.{Outcome}
use Rattle.tree_eval.specs.declared.outcome.Outcome.TheVariants as outcome
use Rattle.tree_eval.specs.Expansions.{Callable, eval_callable_name}
use Rattle.tree_eval.specs.Outcomes.{value_in_outcome}
use Rattle.units_io.specs.Outcomes.{◌>>=◌}
use Rattle.tree_eval.specs.Steps.{ValueOrFault, value_of_quantity_step}

-- a prefix times a unit
abbrev pub prefix_and_unit_value : ValueOrFault → ValueOrFault → ValueOrFault
prefix_and_unit_value prefix unit = do
  p ← prefix
  u ← unit
  value_of_quantity_step (quantity_product p u)

abbrev pub reported_word_value : (ℕ → Callable) → Meaning → ValueOrFault
reported_word_value callee (One o) = value_in_outcome o.now
reported_word_value callee (Two p u) = prefix_and_unit_value (value_in_outcome p.now) (value_in_outcome u.now)
reported_word_value callee (Function id) = Err (NeedsArgument (eval_callable_name (callee id)))

-- no outcome is that of a function, and the number is the number of one
abbrev pub IsUsableEvalMeaning : (ℕ → Bool) → Meaning → Type 0
IsUsableEvalMeaning has (One o) = o.now ≢ outcome.Callable
IsUsableEvalMeaning has (Two p u) = (p.now ≢ outcome.Callable) × (u.now ≢ outcome.Callable)
IsUsableEvalMeaning has (Function id) = IsTrue (has id)

-- the outcome stores the result of an evaluation, unless memory ran out
abbrev pub IsStoredValueOutcome : {E : Type 0} → Result Outcome E → Result Amount EvalFault → Type 0
IsStoredValueOutcome (Err _) value_or_fault = ⊤
IsStoredValueOutcome (Ok o) (Ok q) = o ≡ outcome.Value q
IsStoredValueOutcome (Ok o) (Err (answer.Value fault)) = o ≡ outcome.Fault fault
IsStoredValueOutcome (Ok o) (Err answer.OutOfMemory) = ⊥
