use Rattle.name_walk.proofs.Faults.{walk_steps_fault_law_holds}
use Rattle.name_walk.proofs.laws.fault_law.Goals as goal

pub returns : goal.returns
returns c = walk_steps_fault_law_holds
