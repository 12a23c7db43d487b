use Rattle.quantity.proofs.MatchedPowers as matched
use Rattle.quantity.proofs.laws.conform_law.Goals as goal

pub returns : goal.returns
returns c = matched.conforming_exponents_law
