-- The first name fault of steps, by recursion over paths.
use Rattle.std.specs.Prelude.{ℕ, zero, suc, ◌-◌, Bool, List, [], ◌∷◌, ◌++◌, length, Option, Some, if◌then◌else◌, nat_eq}
use Rattle.std.specs.Prelude.{None}
use Rattle.std.specs.Set.{is_member}
use Rattle.std.specs.List.{last_or}
use Rattle.name_walk.specs.declared.step.Step.{Step}
use Rattle.name_walk.specs.declared.step.Step.TheVariants.{Nowhere, To}
use Rattle.name_walk.specs.Steps.{Graph, graph_steps}
use Rattle.name_walk.specs.Lists.{first_some}

-- a word that leads nowhere, with the name whose words include it, or `None` if the word is in the query itself; or a
-- name that leads back to itself, given as the names from its first place on the path down and then the name again
pub data NameFault : Type 0 where
  DeadEnd : ℕ → Option ℕ → NameFault
  Cycle : List ℕ → NameFault

-- a name is on a path
abbrev pub is_on_path : List ℕ → ℕ → Bool
is_on_path p n = is_member nat_eq p n

-- the part of a path from the first place of a name on
abbrev pub path_from_name : ℕ → List ℕ → List ℕ
path_from_name n [] = []
path_from_name n (k ∷ ks) = if nat_eq k n then k ∷ ks else path_from_name n ks

-- A path is the list of names whose steps are being gone through, outermost first; `deeper` gives the first fault in
-- the steps of the last name of a path.

-- a name that is on the path closes a cycle; any other name is entered
abbrev pub path_fault_at_name : (List ℕ → ℕ → Option NameFault) → List ℕ → ℕ → Option NameFault
path_fault_at_name deeper p n = if is_on_path p n then Some (Cycle (path_from_name n p ++ n ∷ [])) else deeper
    (p ++ n ∷ []) n

-- a word that leads nowhere is a fault of the last name of the path
abbrev pub path_fault_at_step : (List ℕ → ℕ → Option NameFault) → List ℕ → Step → Option NameFault
path_fault_at_step deeper p (Nowhere w) = Some (DeadEnd w (last_or None p))
path_fault_at_step deeper p (To n) = path_fault_at_name deeper p n

-- the first fault in the steps of the last name of a path, if at most `room` more names may be entered
abbrev pub path_fault_within : Graph → ℕ → List ℕ → ℕ → Option NameFault
path_fault_within g zero p n = Some (Cycle p)
path_fault_within g (suc room) p n = first_some (path_fault_at_step (path_fault_within g room) p) (graph_steps g n)

-- the first fault of steps after a path: no name occurs twice in a path, so the number of names of the graph that are
-- not on it is room enough
abbrev pub steps_fault_after_path : Graph → List ℕ → List Step → Option NameFault
steps_fault_after_path g p xs = first_some (path_fault_at_step (path_fault_within g (length g - length p)) p) xs
