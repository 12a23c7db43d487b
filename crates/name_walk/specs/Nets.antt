-- The preconditions of a walk on its names.
use Rattle.std.specs.Prelude.{◌≡◌, Bool, List, length}
use Rattle.name_walk.specs.ClosedNames.{AreSettledInGraph}
use Rattle.name_walk.specs.Steps.{AreStepsInGraph, Graph}

-- each step leads to a name of the graph or nowhere, settled names are closed, and the names that they lead to are
-- settled
pub record IsConsistentGraph (g : Graph) (marks : List Bool) : Type 0 where
  pub steps_in_range : AreStepsInGraph g
  pub mark_per_name : length marks ≡ length g
  pub settled_right : AreSettledInGraph g marks
