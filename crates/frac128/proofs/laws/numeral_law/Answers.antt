use Rattle.frac128.proofs.NumeralValues as values
use Rattle.frac128.proofs.laws.numeral_law.Goals as goal

pub returns : goal.returns
returns c = values.numeral_law
