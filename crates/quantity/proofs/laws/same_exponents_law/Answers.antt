use Rattle.quantity.proofs.MatchedPowers as matched
use Rattle.quantity.proofs.laws.same_exponents_law.Goals as goal

pub returns : goal.returns
returns c = matched.same_exponents_law
