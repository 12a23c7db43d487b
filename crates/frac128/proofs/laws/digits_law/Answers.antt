use Rattle.frac128.proofs.WholeNumerals as laws
use Rattle.frac128.proofs.laws.digits_law.Goals as goal

pub returns : goal.returns
returns c = laws.digit_numeral_law
