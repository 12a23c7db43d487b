-- What a walk knows between two steps of a query.
use Rattle.std.specs.Prelude.{◌≡◌, ◌⊎◌, ◌↔◌, ℕ, Bool, false, List, [], ◌∷◌, length, Option, Some, None, MatchOption}
use Rattle.std.specs.Prelude.{nat_eq, slice_get, Contains}
use Rattle.std.specs.List.{IsDistinct}
use Rattle.name_walk.specs.declared.fault.Fault.{Fault}
use Rattle.name_walk.specs.declared.mark.Mark.{Mark}
use Rattle.name_walk.specs.declared.mark.Mark.TheVariants.{Closed, OnPath, Open}
use Rattle.name_walk.specs.declared.step.Step.TheVariants.{To}
use Rattle.name_walk.specs.ClosedNames.{IsClosedInGraph, IsSettledInGraph}
use Rattle.name_walk.specs.Faults.{steps_fault_after_path}
use Rattle.name_walk.specs.NewlyClosed.{AreOrderedInGraph}
use Rattle.name_walk.specs.Steps.{Graph, GraphReaches}
use Rattle.name_walk.specs.Traces.{AreWalkNamesEntered, WalkTrace}
use Rattle.name_walk.specs.Walks.{walk_fault_view}

-- the mark found for a name; a settled name counts as closed
abbrev pub IsWalkMarkFound : List Bool → List Mark → ℕ → Mark → Type 0
IsWalkMarkFound settled marks n Closed = IsSettledInGraph settled n ⊎ (slice_get marks n ≡ Some Closed)
IsWalkMarkFound settled marks n OnPath = slice_get marks n ≡ Some OnPath
IsWalkMarkFound settled marks n Open = (slice_get settled n ≡ Some false) × (slice_get marks n ≡ Some Open)

-- the names in `order` are exactly those marked as closed; all are closed names, none was settled before, and they are
-- distinct, with targets before users
pub record AreInWalkOrder (g : Graph) (settled : List Bool) (marks : List Mark) (names order : List ℕ) : Type 0 where
  pub mark_per_name : length marks ≡ length g
  pub marked_in_order : (n : ℕ) → (slice_get marks n ≡ Some Closed) ↔ Contains order n
  pub names_closed : (n : ℕ) → Contains order n → IsClosedInGraph g n
  pub names_not_settled : (n : ℕ) → Contains order n → IsSettledInGraph settled n → ⊥
  pub names_differ : IsDistinct nat_eq order
  pub targets_before : AreOrderedInGraph g settled [] order
  pub names_entered : AreWalkNamesEntered marks names

-- the order is right, and no name is on a path
pub record IsBetweenWalkVisits (g : Graph) (settled : List Bool) (t : WalkTrace) : Type 0 where
  pub in_target_order : AreInWalkOrder g settled t.marks t.entered_names t.order
  pub off_path : (n : ℕ) → slice_get t.marks n ≡ Some OnPath → ⊥
  pub frames : t.frames ≡ []

-- n is the name `start` or a name that it reaches
abbrev pub IsBelowInGraph : Graph → ℕ → ℕ → Type 0
IsBelowInGraph g start n = (n ≡ start) ⊎ GraphReaches g start n

-- the name `start` was closed, together with some of the names that it reaches
pub record AddsWalkedBelow (g : Graph) (start : ℕ) (old new : List ℕ) : Type 0 where
  pub new_below : (n : ℕ) → Contains new n → Contains old n ⊎ IsBelowInGraph g start n
  pub old_kept : (n : ℕ) → Contains old n → Contains new n
  pub start_added : Contains new start

-- the result of a visit that finds no fault: the name is closed
pub record IsFaultlessWalkVisit (g : Graph) (settled : List Bool) (start : ℕ) (old new : WalkTrace) : Type 0 where
  pub without_fault : steps_fault_after_path g [] (To start ∷ []) ≡ None
  pub state_between : IsBetweenWalkVisits g settled new
  pub adds : AddsWalkedBelow g start old.order new.order

abbrev pub IsVisitedByWalk : Graph → List Bool → ℕ → WalkTrace → WalkTrace → Option Fault → Type 0
IsVisitedByWalk g settled start old new result =
    MatchOption result (IsFaultlessWalkVisit g settled start old new)
    (λ f. steps_fault_after_path g [] (To start ∷ []) ≡ Some (walk_fault_view f))
