use Rattle.frac128.proofs.Multiples.{lcm_is}
use Rattle.frac128.proofs.laws.lcm_law.Goals as goal

pub returns : goal.returns
returns c = lcm_is
