-- The state of the search for a failed step after a part of an expression.
use Rattle.std.specs.Prelude.{◌≡◌, Option}
use Rattle.quantity.specs.Amount.{Amount}
use Rattle.tree_eval.specs.declared.step.Step.{Step}
use Rattle.value_sources.specs.declared.failure.FailedStep.{FailedStep}
use Rattle.value_sources.specs.declared.joining.Progress.{Progress}
use Rattle.value_sources.specs.declared.joining.Progress.TheVariants.{End, Value}
use Rattle.value_sources.specs.FailedSteps.{failed_step_after, failed_step_of_join}

-- the result of the search: its end, or the result of the rest after the value so far
abbrev pub failed_step_after_progress : Progress → (Amount → Option FailedStep) → Option FailedStep
failed_step_after_progress (Value v) next = next v
failed_step_after_progress (End step) next = step

-- a member with this value, or else with this failed step inside it, was reached, whatever follows
abbrev pub IsFailedStepProgress : Option Amount → (inside : Option FailedStep) → Progress → Type 0
IsFailedStepProgress value inside reached = (next : Amount → Option FailedStep)
    → failed_step_after value inside next ≡ failed_step_after_progress reached next

-- the member was joined to the running value by the step, whatever follows
abbrev pub IsJoinedUpToFailedStep : Step → (running : Option Amount) → (member joined : Progress) → Type 0
IsJoinedUpToFailedStep step running member result =
    (next : Amount → Option FailedStep) → failed_step_after_progress member
    (λ v. failed_step_of_join step running v next) ≡ failed_step_after_progress result next
