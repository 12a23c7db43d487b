-- How names come to their faults: each name with a fault has a first step with a fault, which leads nowhere or to a
-- name with a fault.
use Rattle.std.specs.Prelude.{◌≡◌, ℕ, Bool, List, [], ◌∷◌, Option, Some, nat_eq, slice_get, take, Contains, None}
use Rattle.std.specs.List.{AllByRecursion, IsDistinct, last_or}
use Rattle.name_walk.specs.declared.step.Step.{Step}
use Rattle.name_walk.specs.declared.step.Step.TheVariants.{Nowhere, To}
use Rattle.name_walk.specs.declared.trail.FaultyStep.{FaultyStep}
use Rattle.name_walk.specs.ClosedNames.{IsClosedInGraph, IsSettledOrWalked, WalkStepLeadsInto}
use Rattle.name_walk.specs.Steps.{Graph, GraphLeadsTo, graph_steps}

-- what is known about each name that has a fault
abbrev pub Faults : Type 0
Faults = List (Option FaultyStep)

-- a name is known to have a fault
abbrev pub IsFaultyInWalk : Faults → ℕ → Type 0
IsFaultyInWalk fs n = (c : FaultyStep) × (slice_get fs n ≡ Some (Some c))

-- the first step of n with a fault is x
abbrev pub GoesByFaultyStep : Faults → ℕ → Step → Type 0
GoesByFaultyStep fs n x = (c : FaultyStep) × (slice_get fs n ≡ Some (Some c)) × (c.step ≡ x)

-- from n the faulty steps lead through some names, and the faulty step of the last one is x
abbrev pub FollowsFaultyWalk : Faults → ℕ → List ℕ → Step → Type 0
FollowsFaultyWalk fs n [] x = GoesByFaultyStep fs n x
FollowsFaultyWalk fs n (m ∷ ms) x = GoesByFaultyStep fs n (To m) × FollowsFaultyWalk fs m ms x

-- names on a way to a fault end at e: the last name if the step leads nowhere, or else the name among them to which
-- the step leads back
abbrev pub FaultyWalkEndsAt : List ℕ → Step → ℕ → Type 0
FaultyWalkEndsAt names (Nowhere w) e = last_or None names ≡ Some e
FaultyWalkEndsAt names (To m) e = (m ≡ e) × Contains names e

-- the way from n to its fault, which occurs at e
pub record IsWalkTrail (fs : Faults) (n e : ℕ) : Type 0 where
  pub names : List ℕ
  pub step : Step
  pub follows_faults : FollowsFaultyWalk fs n names step
  pub names_differ : IsDistinct nat_eq (n ∷ names)
  pub ends_at : FaultyWalkEndsAt (n ∷ names) step e

-- x is a step of n, and each earlier step of n leads to a name that is settled or sound
pub record IsStepAfterSoundSteps (g : Graph) (s : List Bool) (sound : List ℕ) (n : ℕ) (x : Step) : Type 0 where
  pub place : ℕ
  pub step_at : slice_get (graph_steps g n) place ≡ Some x
  pub earlier_done : AllByRecursion (WalkStepLeadsInto (IsSettledOrWalked s sound)) (take place (graph_steps g n))

-- each faulty step to a name leads to a name with a fault, and each name with a fault has a way to it
pub record AreWalkTrails (fs : Faults) : Type 0 where
  pub leads_to_faulty : (n m : ℕ) → GoesByFaultyStep fs n (To m) → IsFaultyInWalk fs m
  pub trails : (n : ℕ) (c : FaultyStep) → slice_get fs n ≡ Some (Some c) → IsWalkTrail fs n c.end

-- what is known about names is true: sound names are closed and lead only to settled and sound names, and each name
-- with a fault comes to it by the first of its steps that has a fault
pub record AreWalkFindings (g : Graph) (s : List Bool) (names : List ℕ) (fs : Faults) : Type 0 where
  pub names_sound : (n : ℕ) → Contains names n
      → IsClosedInGraph g n × ((m : ℕ) → GraphLeadsTo g n m → IsSettledOrWalked s names m)
  pub first_faults : (n : ℕ) (c : FaultyStep) → slice_get fs n ≡ Some (Some c)
      → IsStepAfterSoundSteps g s names n c.step
