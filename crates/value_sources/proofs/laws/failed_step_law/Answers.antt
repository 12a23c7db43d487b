use Rattle.value_sources.proofs.StepFaults.{fault_of_failed_step}
use Rattle.value_sources.proofs.laws.failed_step_law.Goals as goal

pub returns : goal.returns
returns c = fault_of_failed_step c.closed_law.ensures c.kind_law.ensures
