use Rattle.frac128.proofs.NearestWholes as laws
use Rattle.frac128.proofs.laws.nearest_whole_law.Goals as goal

pub returns : goal.returns
returns c = laws.fraction_nearest_whole_law
