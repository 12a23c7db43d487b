use Rattle.frac128.proofs.QuotientLaws as laws
use Rattle.frac128.proofs.laws.reduced_law.Goals as goal

pub returns : goal.returns
returns c = laws.reduced_fraction_law
