-- The faults of an evaluation.
use Rattle.quantity.specs.declared.fault.QuantityFault.{QuantityFault}
use Rattle.quantity.specs.declared.fault.QuantityFault.TheVariants as step
use Rattle.tree_eval.specs.declared.fault.ValueFault.{ValueFault}
use Rattle.tree_eval.specs.declared.fault.ValueFault.TheVariants as fault

-- the fault of a step on quantities. The expected result of a step is never lack of memory
abbrev pub eval_quantity_fault : QuantityFault → ValueFault
eval_quantity_fault (step.Number f) = fault.Number f
eval_quantity_fault (step.NotConformable x y) = fault.NotConformable x y
eval_quantity_fault step.ExponentNotNumber = fault.ExponentNotNumber
eval_quantity_fault step.ExponentRange = fault.ExponentRange
eval_quantity_fault step.OutOfMemory = fault.ExponentRange
