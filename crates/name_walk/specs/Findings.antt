-- The results of searches for faults, valid as long as no step changes.
use Rattle.std.specs.Prelude.{◌≡◌, ◌⊎◌, ◌<◌, ⊤, ℕ, Bool, List, [], ◌∷◌, length, Option, Some, None, slice_get, Contains}
use Rattle.name_walk.specs.declared.mark.Mark.{Mark}
use Rattle.name_walk.specs.declared.mark.Mark.TheVariants.{Closed, OnPath}
use Rattle.name_walk.specs.declared.step.Step.{Step}
use Rattle.name_walk.specs.declared.step.Step.TheVariants.{Nowhere, To}
use Rattle.name_walk.specs.ClosedNames.{IsSettledInGraph}
use Rattle.name_walk.specs.Faults.{NameFault, steps_fault_after_path}
use Rattle.name_walk.specs.NewlyClosed.{IsReachedInGraph}
use Rattle.name_walk.specs.Steps.{Graph}
use Rattle.name_walk.specs.Traces.{AreWalkNamesEntered, WalkTrace}
use Rattle.name_walk.specs.Trails.{AreWalkFindings, AreWalkTrails, Faults, IsFaultyInWalk}

-- the names that are known to be sound, what is known about the names with a fault, and all names about which
-- something is known
pub record WalkFindings : Type 0 where
  pub sound_names : List ℕ
  pub faults : Faults
  pub names : List ℕ

-- what is known about names is true, and `f.names` are all the names about which something is known
pub record AreRightWalkFindings (g : Graph) (s : List Bool) (f : WalkFindings) : Type 0 where
  pub findings_right : AreWalkFindings g s f.sound_names f.faults
  pub sound_named : (n : ℕ) → Contains f.sound_names n → Contains f.names n
  pub faulty_named : (n : ℕ) → IsFaultyInWalk f.faults n → Contains f.names n

-- marks and faults can be cleared: each name that has one is in the list
pub record CanClearWalk (ms : List Mark) (es : List ℕ) (fs : Faults) : Type 0 where
  pub names_entered : AreWalkNamesEntered ms es
  pub names_within : (n : ℕ) → Contains es n → n < length fs
  pub faulty_entered : (n : ℕ) → IsFaultyInWalk fs n → Contains es n

-- each mark agrees with what is known about its name, and each name with a fault has a way to it
pub record IsConsistentWalkTrace (t : WalkTrace) (fs : Faults) : Type 0 where
  pub can_clear : CanClearWalk t.marks t.entered_names fs
  pub marked_in_order : (n : ℕ) → slice_get t.marks n ≡ Some Closed → Contains t.order n
  pub order_entered : (n : ℕ) → Contains t.order n → Contains t.entered_names n
  pub trails : AreWalkTrails fs
  pub off_path : (n : ℕ) → slice_get t.marks n ≡ Some OnPath → IsFaultyInWalk fs n
  pub frames : t.frames ≡ []

-- nothing is known about any name
pub record AreNoWalkFindings (f : WalkFindings) : Type 0 where
  pub no_sound_names : f.sound_names ≡ []
  pub no_faults : (n : ℕ) → IsFaultyInWalk f.faults n → ⊥
  pub names : f.names ≡ []

-- a step leads nowhere, or to a name that is known to have a fault
abbrev pub IsFaultyWalkStep : Faults → Step → Type 0
IsFaultyWalkStep fs (Nowhere w) = ⊤
IsFaultyWalkStep fs (To n) = IsFaultyInWalk fs n

-- the first fault of a query is that of one of its steps
pub record IsWalkQueryFault (g : Graph) (query : List Step) (x : Step) : Type 0 where
  pub fault_there : NameFault
  pub of_step : steps_fault_after_path g [] (x ∷ []) ≡ Some fault_there
  pub of_query : steps_fault_after_path g [] query ≡ Some fault_there

-- a query has no fault, or its first fault is that of this step
abbrev pub IsFirstFaultyWalkStep : Graph → List Step → Faults → Option Step → Type 0
IsFirstFaultyWalkStep g query fs None = steps_fault_after_path g [] query ≡ None
IsFirstFaultyWalkStep g query fs (Some x) = IsWalkQueryFault g query x × IsFaultyWalkStep fs x

-- each name about which something is now known was known before, or is reached by the query and not settled
abbrev pub AreWalkedFromQuery : Graph → List Bool → List Step → List ℕ → List ℕ → Type 0
AreWalkedFromQuery g s query old new = (n : ℕ) → Contains new n
    → Contains old n ⊎ (IsReachedInGraph g query n × (IsSettledInGraph s n → ⊥))
