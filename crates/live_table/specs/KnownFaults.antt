-- The explored names that are known to have a fault.
use Rattle.std.specs.Prelude.{◌≡◌, ℕ, List, Option, Some, None, Contains}
use Rattle.name_walk.specs.declared.step.Step.{Step}
use Rattle.name_walk.specs.ClosedNames.{IsSettledInGraph}
use Rattle.name_walk.specs.Findings.{AreRightWalkFindings, IsFaultyWalkStep, IsWalkQueryFault, WalkFindings}
use Rattle.name_walk.specs.Steps.{graph_steps}
use Rattle.name_walk.specs.Trails.{Faults}
use Rattle.live_table.specs.QueryEffects.{AreUnsettledNamesClosed}
use Rattle.live_table.specs.TableContents.{NodeLists}

-- the findings are right, and each name with a finding was explored
pub record AreExploredFaultsKnown (l : NodeLists) (explored : List ℕ) (f : WalkFindings) : Type 0 where
  pub is_right : AreRightWalkFindings l.graph l.settled_flags f
  pub names_explored : (n : ℕ) → Contains f.names n → Contains explored n

-- the names have the same steps in both states
abbrev pub HaveSameNodeSteps : List ℕ → NodeLists → NodeLists → Type 0
HaveSameNodeSteps names l m = (n : ℕ) → Contains names n → graph_steps m.graph n ≡ graph_steps l.graph n

-- nothing differs except that more names are settled
pub record AreMoreNamesSettled (l m : NodeLists) : Type 0 where
  pub graph : m.graph ≡ l.graph
  pub settled_stay : (n : ℕ) → IsSettledInGraph l.settled_flags n → IsSettledInGraph m.settled_flags n

-- a query has no fault and newly closes these names, or its first fault is that of this step, which is known
abbrev pub IsFirstExploredFault : NodeLists → List Step → List ℕ → Faults → Option Step → Type 0
IsFirstExploredFault l query order fs None = AreUnsettledNamesClosed l query order
IsFirstExploredFault l query order fs (Some x) = IsWalkQueryFault l.graph query x × IsFaultyWalkStep fs x
