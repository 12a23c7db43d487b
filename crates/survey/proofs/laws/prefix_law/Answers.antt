use Rattle.survey.proofs.KeyFaults.{prefix_law}
use Rattle.survey.proofs.laws.prefix_law.Goals as goal

pub returns : goal.returns
returns c = prefix_law
