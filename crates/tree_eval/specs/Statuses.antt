-- The statuses of evaluations.
use Rattle.std.specs.Prelude.{Result, Ok, Err, ⊤}
use Rattle.tree_eval.specs.declared.fault.EvalFault.{EvalFault}
use Rattle.tree_eval.specs.declared.fault.EvalFault.TheVariants as fault
use Rattle.tree_eval.specs.declared.eval_status.Status.{Status}
use Rattle.tree_eval.specs.declared.eval_status.Status.TheVariants as status

-- the result that a contract sees for a status
abbrev pub result_of_status : Status → Result ⊤ EvalFault
result_of_status status.Success = Ok tt
result_of_status (status.Fault f) = Err (fault.Value f)
result_of_status status.OutOfMemory = Err fault.OutOfMemory
