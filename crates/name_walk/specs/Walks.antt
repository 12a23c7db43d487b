-- The result of a walk.
use Rattle.std.specs.Prelude.{◌≡◌, ℕ, Bool, List, [], Option, Some, None, MatchOption}
use Rattle.name_walk.specs.declared.fault.Fault.{Fault}
use Rattle.name_walk.specs.declared.fault.Fault.TheVariants as made
use Rattle.name_walk.specs.declared.step.Step.{Step}
use Rattle.name_walk.specs.Faults.{Cycle, DeadEnd, NameFault, steps_fault_after_path}
use Rattle.name_walk.specs.NewlyClosed.{AreNewlyClosedByWalk}
use Rattle.name_walk.specs.Steps.{Graph}

-- the specification's view of the fault that the program returns
abbrev pub walk_fault_view : Fault → NameFault
walk_fault_view (made.DeadEnd w holder) = DeadEnd w holder
walk_fault_view (made.Cycle names) = Cycle names.items

-- a walk returns the first fault of the query, or, if it has none, `order` lists the names that it newly closes
abbrev pub IsWalked : Graph → List Bool → List Step → List ℕ → Option Fault → Type 0
IsWalked g settled query order result =
    MatchOption result
    ((steps_fault_after_path g [] query ≡ None) × AreNewlyClosedByWalk g settled query order)
    (λ f. steps_fault_after_path g [] query ≡ Some (walk_fault_view f))
