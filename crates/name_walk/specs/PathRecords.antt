-- What is recorded about the names of a path that has come to a fault.
use Rattle.std.specs.Prelude.{◌≡◌, ℕ, List, [], ◌∷◌, Some, if◌then◌else◌, nat_eq, slice_get}
use Rattle.name_walk.specs.declared.step.Step.{Step}
use Rattle.name_walk.specs.declared.step.Step.TheVariants.{To}
use Rattle.name_walk.specs.declared.trail.Ending.{Ending}
use Rattle.name_walk.specs.declared.trail.Ending.TheVariants.{At, Ring}
use Rattle.name_walk.specs.Trails.{Faults}

-- the name at which the fault of a name occurs
abbrev pub path_end_for : Ending → ℕ → ℕ
path_end_for (At e) n = e
path_end_for (Ring m) n = n

-- the ending for the names above n: names above the first name of a ring enter the ring at that name
abbrev pub path_ending_above : Ending → ℕ → Ending
path_ending_above (At e) n = At e
path_ending_above (Ring m) n = if nat_eq n m then At m else Ring m

-- the ending for the names above a list of names
abbrev pub ending_of_path : Ending → List ℕ → Ending
ending_of_path ending [] = ending
ending_of_path ending (n ∷ below) = path_ending_above (ending_of_path ending below) n

-- the step to the first name of a list, or x if the list is empty
abbrev pub step_down_path : Step → List ℕ → Step
step_down_path x [] = x
step_down_path x (n ∷ below) = To n

-- each name of a list comes to its fault by the step to the next name, and the last name by the step x
abbrev pub ArePathFaultsNoted : Faults → Ending → Step → List ℕ → Type 0
ArePathFaultsNoted fs ending x [] = Unit {0}
ArePathFaultsNoted fs ending x (n ∷ below) =
    (slice_get fs n ≡ Some
    (Some (record { step = step_down_path x below; end = path_end_for (ending_of_path ending below) n })))
    × ArePathFaultsNoted fs ending x below
