use Rattle.watch.proofs.Costs.{cost_law}
use Rattle.watch.proofs.laws.cost_law.Goals as goal

pub returns : goal.returns
returns c = cost_law
