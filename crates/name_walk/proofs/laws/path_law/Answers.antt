use Rattle.name_walk.proofs.Faults.{name_path_law_holds}
use Rattle.name_walk.proofs.laws.path_law.Goals as goal

pub returns : goal.returns
returns c = name_path_law_holds
