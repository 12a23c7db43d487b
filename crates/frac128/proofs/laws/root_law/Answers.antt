use Rattle.frac128.proofs.Roots as laws
use Rattle.frac128.proofs.laws.root_law.Goals as goal

pub returns : goal.returns
returns c = laws.unique_fraction_root_law
