use Rattle.frac128.proofs.Euclid.{gcd_is}
use Rattle.frac128.proofs.laws.gcd_law.Goals as goal

pub returns : goal.returns
returns c = gcd_is
