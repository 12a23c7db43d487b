use Rattle.name_walk.proofs.DoneNames.{settled_graph_law_holds}
use Rattle.name_walk.proofs.laws.settled_law.Goals as goal

pub returns : goal.returns
returns c = settled_graph_law_holds
