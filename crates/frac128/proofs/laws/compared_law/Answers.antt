use Rattle.frac128.proofs.OrderLaws as ordered
use Rattle.frac128.proofs.laws.compared_law.Goals as goal

pub returns : goal.returns
returns c = ordered.fraction_comparison_law
