-- What a search for faults knows while it runs.
use Rattle.std.specs.Prelude.{◌≡◌, ◌⊎◌, ◌<◌, ◌≤◌, ℕ, Bool, true, false, List, length, Some, slice_get, Contains}
use Rattle.name_walk.specs.declared.mark.Mark.{Mark}
use Rattle.name_walk.specs.declared.mark.Mark.TheVariants.{Closed, OnPath, Open}
use Rattle.name_walk.specs.declared.search.Finding.{Finding}
use Rattle.name_walk.specs.declared.search.Finding.TheVariants as found
use Rattle.name_walk.specs.declared.step.Step.{Step}
use Rattle.name_walk.specs.declared.step.Step.TheVariants.{Nowhere, To}
use Rattle.name_walk.specs.declared.trail.Ending.{Ending}
use Rattle.name_walk.specs.declared.trail.Ending.TheVariants.{At, Ring}
use Rattle.name_walk.specs.declared.trail.FaultyStep.{FaultyStep}
use Rattle.name_walk.specs.ClosedNames.{IsSettledInGraph, IsSettledOrWalked}
use Rattle.name_walk.specs.Findings.{IsConsistentWalkTrace}
use Rattle.name_walk.specs.Steps.{Graph}
use Rattle.name_walk.specs.Traces.{AreWalkNamesEntered, WalkTrace}
use Rattle.name_walk.specs.Trails.{AreWalkFindings, Faults, IsFaultyInWalk}
use Rattle.name_walk.specs.Visits.{IsBelowInGraph, IsWalkMarkFound}

-- nothing is known about a name
pub record IsOpenForWalk (s : List Bool) (ms : List Mark) (fs : Faults) (n : ℕ) : Type 0 where
  pub not_settled : slice_get s n ≡ Some false
  pub mark : slice_get ms n ≡ Some Open
  pub not_faulty : IsFaultyInWalk fs n → ⊥

-- if a step leads to a name, then the name is in range of all tables
abbrev pub CanFindInWalk : List Bool → List Mark → Faults → Step → Type 0
CanFindInWalk s ms fs x = (m : ℕ) → x ≡ To m → (m < length s) × (m < length ms) × (m < length fs)

-- how a step with a fault ends the path whose last name is `name`
abbrev pub IsPathEnding : List Mark → Faults → ℕ → Step → Ending → Type 0
IsPathEnding ms fs name (Nowhere w) ending = ending ≡ At name
IsPathEnding ms fs name (To m) (At e) = (c : FaultyStep) × (slice_get fs m ≡ Some (Some c)) × (c.end ≡ e)
IsPathEnding ms fs name (To m) (Ring k) = (k ≡ m) × (slice_get ms m ≡ Some OnPath) × (IsFaultyInWalk fs m → ⊥)

-- the finding for a step of `name`
abbrev pub IsWalkFinding : List Bool → List Mark → Faults → ℕ → Step → Finding → Type 0
IsWalkFinding s ms fs name x found.Sound = (m : ℕ) × (x ≡ To m) × IsWalkMarkFound s ms m Closed
IsWalkFinding s ms fs name x (found.Open m) = (x ≡ To m) × IsOpenForWalk s ms fs m
IsWalkFinding s ms fs name x (found.Faulty ending) = IsPathEnding ms fs name x ending

-- the state between two steps of a query
pub record IsBetweenWalkSearches (g : Graph) (s : List Bool) (t : WalkTrace) (fs : Faults) : Type 0 where
  pub findings_right : AreWalkFindings g s t.order fs
  pub consistent : IsConsistentWalkTrace t fs
  pub marks : length g ≤ length t.marks
  pub fault_room : length g ≤ length fs

-- what was known is still known, and each name that is newly known is at or below `start` and not settled
pub record AreMoreWalkFindings (g : Graph) (s : List Bool) (start : ℕ) (old new : WalkTrace) (fs hs : Faults) : Type 0
  where
    pub order_grows : (n : ℕ) → Contains old.order n → Contains new.order n
    pub faults_grow : (n : ℕ) → IsFaultyInWalk fs n → IsFaultyInWalk hs n
    pub names : (n : ℕ) → Contains new.entered_names n
        → Contains old.entered_names n ⊎ (IsBelowInGraph g start n × (IsSettledInGraph s n → ⊥))

-- it is known whether a name has a fault
abbrev pub IsDecidedByWalk : List Bool → List ℕ → Faults → ℕ → Bool → Type 0
IsDecidedByWalk s order fs n true = IsFaultyInWalk fs n
IsDecidedByWalk s order fs n false = IsSettledOrWalked s order n

-- the search has gone through a name, and `is_faulty` says whether it has a fault
pub record IsSearchedByWalk (g : Graph) (s : List Bool) (start : ℕ) (old new : WalkTrace) (fs hs : Faults)
    (is_faulty : Bool)
    : Type 0 where
  pub state_between : IsBetweenWalkSearches g s new hs
  pub more : AreMoreWalkFindings g s start old new fs hs
  pub decision : IsDecidedByWalk s new.order hs start is_faulty

-- there may be marks for more names, and the new marks are open
pub record AreWalkMarksCovered (old new : WalkTrace) : Type 0 where
  pub marks : (n : ℕ) (m : Mark) → (m ≡ Open → ⊥) → slice_get new.marks n ≡ Some m → slice_get old.marks n ≡ Some m
  pub names_entered : AreWalkNamesEntered old.marks old.entered_names → AreWalkNamesEntered new.marks new.entered_names
  pub names : new.entered_names ≡ old.entered_names
  pub order : new.order ≡ old.order
  pub frames : new.frames ≡ old.frames

-- there may be entries for more names, and the new names have no fault
pub record AreWalkFaultsCovered (fs hs : Faults) : Type 0 where
  pub new_faults : (n : ℕ) (c : FaultyStep) → slice_get hs n ≡ Some (Some c) → slice_get fs n ≡ Some (Some c)
  pub old_faults : (n : ℕ) (c : FaultyStep) → slice_get fs n ≡ Some (Some c) → slice_get hs n ≡ Some (Some c)
  pub fault_list_grows : length fs ≤ length hs
