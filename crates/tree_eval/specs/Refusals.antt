-- How calls propagate faults, and how functions refuse.
use Rattle.std.specs.Prelude.{◌≡◌, ℕ, List, ⊤}
use Rattle.quantity.specs.declared.fault.QuantityFault.{QuantityFault}
use Rattle.quantity.specs.declared.fault.QuantityFault.TheVariants as step
use Rattle.tree_eval.specs.declared.fault.EvalFault.{EvalFault}
use Rattle.tree_eval.specs.declared.fault.EvalFault.TheVariants.{Value, OutOfMemory}
use Rattle.tree_eval.specs.declared.fault.ValueFault.{ValueFault}
use Rattle.tree_eval.specs.declared.fault.ValueFault.TheVariants as fault
use Rattle.tree_eval.specs.declared.refusal.Refusal.{Refusal}
use Rattle.tree_eval.specs.declared.refusal.Refusal.TheVariants as refusal
use Rattle.tree_eval.specs.Faults.{eval_quantity_fault}

-- the fault of a refusal by the function with this name
abbrev pub eval_refusal_fault : Refusal → List ℕ → ValueFault
eval_refusal_fault refusal.NotInDomain name = fault.NotInDomain name
eval_refusal_fault refusal.NotInRange name = fault.NotInRange name
eval_refusal_fault refusal.WrongArgument name = fault.WrongArgument name
eval_refusal_fault refusal.WrongResult name = fault.WrongResult name
eval_refusal_fault refusal.NoInverse name = fault.NoInverse name
eval_refusal_fault refusal.OutsideTable name = fault.OutsideTable name
eval_refusal_fault refusal.NeedsArgument name = fault.NeedsArgument name
eval_refusal_fault refusal.CallsTooDeep name = fault.CallsTooDeep name

-- the result is this fault, or memory ran out
abbrev pub IsEvalFault : EvalFault → ValueFault → Type 0
IsEvalFault (Value fault) expected = expected ≡ fault
IsEvalFault OutOfMemory expected = ⊤

-- the fault of a step is propagated, lack of memory included
abbrev pub IsEvalStepFault : QuantityFault → EvalFault → Type 0
IsEvalStepFault step.OutOfMemory answer = answer ≡ OutOfMemory
IsEvalStepFault step_fault answer = IsEvalFault answer (eval_quantity_fault step_fault)
