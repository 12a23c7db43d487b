-- A characterization of the first fault that does not depend on the bound in its definition.
use Rattle.std.specs.Prelude.{◌≡◌, ℕ, List, Option}
use Rattle.name_walk.specs.declared.step.Step.{Step}
use Rattle.name_walk.specs.Faults.{NameFault, path_fault_at_step, steps_fault_after_path}
use Rattle.name_walk.specs.Paths.{IsNamePath}
use Rattle.name_walk.specs.Steps.{AreStepsInGraph, Graph, StayInGraph, graph_steps}
use Rattle.name_walk.specs.Lists.{first_some}

-- a function gives the fault of steps after a path: the first of their faults in order, and for a step to a name the
-- fault of the steps of that name after the path extended by the name
abbrev pub IsWalkStepsFault : Graph → (List ℕ → List Step → Option NameFault) → Type 0
IsWalkStepsFault g f = (p : List ℕ) (xs : List Step) → IsNamePath g p → StayInGraph g xs
    → f p xs ≡ first_some (path_fault_at_step (λ longer n. f longer (graph_steps g n)) p) xs

-- law: `steps_fault_after_path g` is such a function, and it is the only one
pub record WalkStepsFaultLaw : Type 0 where
  pub fault_is_first : (g : Graph) → AreStepsInGraph g → IsWalkStepsFault g (steps_fault_after_path g)
  pub only_fault : (g : Graph) → AreStepsInGraph g → (f : List ℕ → List Step → Option NameFault) → IsWalkStepsFault g f
      → (p : List ℕ) (xs : List Step) → IsNamePath g p → StayInGraph g xs → f p xs ≡ steps_fault_after_path g p xs
