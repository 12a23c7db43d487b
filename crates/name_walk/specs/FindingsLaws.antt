-- Laws of findings.
use Rattle.std.specs.Prelude.{◌≡◌, ◌≤◌, ℕ, Bool, List, length, Contains}
use Rattle.name_walk.specs.ClosedNames.{IsSettledInGraph}
use Rattle.name_walk.specs.Findings.{AreNoWalkFindings, AreRightWalkFindings, WalkFindings}
use Rattle.name_walk.specs.Nets.{IsConsistentGraph}
use Rattle.name_walk.specs.Steps.{Graph, graph_steps}

-- law: findings about no name are right for all graphs. Findings stay right when names are added and more names are
-- settled, as long as the steps of the names about which something is known do not change.
pub record WalkFindingsLaw : Type 0 where
  pub nothing : (g : Graph) (s : List Bool) (f : WalkFindings) → AreNoWalkFindings f → AreRightWalkFindings g s f
  pub still : (g h : Graph) (s r : List Bool) (f : WalkFindings) → AreRightWalkFindings g s f → IsConsistentGraph h r
      → length g ≤ length h
      → ((n : ℕ) → IsSettledInGraph s n → IsSettledInGraph r n)
      → ((n : ℕ) → Contains f.names n → graph_steps h n ≡ graph_steps g n)
      → AreRightWalkFindings h r f
