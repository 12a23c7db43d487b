use Rattle.frac128.proofs.OrderLaws as laws
use Rattle.frac128.proofs.laws.order_law.Goals as goal

pub returns : goal.returns
returns c = laws.fraction_order_law
