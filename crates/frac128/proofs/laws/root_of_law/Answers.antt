use Rattle.frac128.proofs.ComputedRoots as laws
use Rattle.frac128.proofs.laws.root_of_law.Goals as goal

pub returns : goal.returns
returns c = laws.fraction_root_law
