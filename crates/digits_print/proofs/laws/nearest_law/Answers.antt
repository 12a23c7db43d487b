use Rattle.digits_print.proofs.NearestDecimals as laws
use Rattle.digits_print.proofs.laws.nearest_law.Goals as goal

pub returns : goal.returns
returns c = laws.nearest_decimal_law c.nearest_whole_law.ensures
