use Rattle.name_walk.proofs.ClosedPaths.{closed_graph_name_law_holds}
use Rattle.name_walk.proofs.laws.closed_law.Goals as goal

pub returns : goal.returns
returns c = closed_graph_name_law_holds
