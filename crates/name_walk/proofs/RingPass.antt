-- A ring of names during the pass over it.
use Rattle.std.proofs.Common.{◌≡◌, ℕ, suc, ◌+◌, ◌<◌, ◌≤◌, List, [], ◌∷◌, ◌++◌, length, sym, ◌∙◌}
use Rattle.std.proofs.Common.{ap, subst, arith, append_assoc, append-nil, length-append}
use Rattle.std.proofs.lemmas.Map.Steps.{length-le_from_distinct_below}
use Rattle.name_walk.specs.declared.step.Step.TheVariants.{To}
use Rattle.name_walk.specs.Rings.{IsFaultyWalkWay, IsWalkFaultRing}
use Rattle.name_walk.specs.Trails.{Faults, GoesByFaultyStep}
use Rattle.name_walk.proofs.Trails.{one_step}
use Rattle.name_walk.proofs.Members.{on_path_member}

equal_ring_steps_have_one_target : (a b : ℕ) → To a ≡ To b → a ≡ b
equal_ring_steps_have_one_target a b e = cc

-- some names of a ring were passed, others are left
pub record IsRinging (fs : Faults) (last first here : ℕ) (names : List ℕ) : Type 0 where
  pub passed : List ℕ
  pub left : List ℕ
  pub whole : names ≡ last ∷ passed
  pub ring : IsWalkFaultRing fs last first (passed ++ left)
  pub way : IsFaultyWalkWay fs last here left

pub walk_ring_starts : (fs : Faults) (last first : ℕ) (rest names : List ℕ) → IsWalkFaultRing fs last first rest
    → names ≡ last ∷ [] → IsRinging fs last first first names
walk_ring_starts fs last first rest names ring e =
    record { passed = []; left = rest; whole = e; ring = ring; way = ring.way }

module _ (fs : Faults) (last first here : ℕ) (names : List ℕ) where
  -- ---- by the names that are left
  leads_on : (left : List ℕ) → IsFaultyWalkWay fs last here left → (here ≡ last → ⊥)
      → (m : ℕ) × GoesByFaultyStep fs here (To m)
  leads_on [] way ne = absurd (ne way)
  leads_on (n ∷ left) way ne =
      (way.2.0, subst (λ (k : ℕ). GoesByFaultyStep fs k (To way.2.0)) (sym way.0) way.2.1)

  goes_on : (passed left : List ℕ) → names ≡ last ∷ passed → IsWalkFaultRing fs last first (passed ++ left)
      → IsFaultyWalkWay fs last here left → (here ≡ last → ⊥) → (next : ℕ) → GoesByFaultyStep fs here (To next)
      → (new : List ℕ)
      → new ≡ names ++ here ∷ [] → IsRinging fs last first next new
  goes_on passed [] whole ring way ne next goes new e = absurd (ne way)
  goes_on passed (n ∷ left) whole ring way ne next goes new e =
      let same : way.2.0 ≡ next =
      equal_ring_steps_have_one_target way.2.0 next (one_step fs n (To way.2.0) (To next) way.2.1
      (subst (λ (k : ℕ). GoesByFaultyStep fs k (To next)) way.0 goes)) in
      record {
        passed = passed ++ n ∷ [];
        left = left;
        whole = e ∙ (ap (λ (ns : List ℕ). ns ++ here ∷ []) whole ∙ ap (λ (k : ℕ). last ∷ passed ++ k ∷ []) way.0);
        ring = subst (λ (ns : List ℕ). IsWalkFaultRing fs last first ns) (sym (append_assoc passed (n ∷ []) left)) ring;
        way = subst (λ (k : ℕ). IsFaultyWalkWay fs last k left) same way.2.2;
      }

  has_room : (passed left : List ℕ) → names ≡ last ∷ passed → IsWalkFaultRing fs last first (passed ++ left)
      → IsFaultyWalkWay fs last here left → (here ≡ last → ⊥) → length names < length fs
  has_room passed [] whole ring way ne = absurd (ne way)
  has_room passed (n ∷ left) whole ring way ne =
      let all : length (last ∷ passed ++ n ∷ left) ≤ length fs =
      length-le_from_distinct_below (last ∷ passed ++ n ∷ left) (length fs) ring.names_differ
      (λ k o. ring.names_in_faults k (on_path_member (last ∷ passed ++ n ∷ left) k o)) in
      let size : length names ≡ suc (length passed) = ap (λ (ns : List ℕ). length ns) whole in
      let parts : length (passed ++ n ∷ left) ≡ length passed + suc (length left) = length-append passed (n ∷ left) in
      omega arith

  ends_here : (passed left : List ℕ) → IsWalkFaultRing fs last first (passed ++ left)
      → IsFaultyWalkWay fs last here left
      → here ≡ last
      → IsFaultyWalkWay fs last first passed
  ends_here passed [] ring way e = subst (λ (ns : List ℕ). IsFaultyWalkWay fs last first ns) (append-nil passed)
      ring.way
  ends_here passed (n ∷ left) ring way e = absurd (way.1 (sym way.0 ∙ e))

  -- ---- an iteration of the loop
  module _ (h : IsRinging fs last first here names) where
    pub ringing_leads : (here ≡ last → ⊥) → (m : ℕ) × GoesByFaultyStep fs here (To m)
    ringing_leads ne = leads_on h.left h.way ne

    pub ringing_next : (here ≡ last → ⊥) → (next : ℕ) → GoesByFaultyStep fs here (To next) → (new : List ℕ)
        → new ≡ names ++ here ∷ [] → IsRinging fs last first next new
    ringing_next ne next goes new e = goes_on h.passed h.left h.whole h.ring h.way ne next goes new e

    pub ringing_room : (here ≡ last → ⊥) → length names < length fs
    ringing_room ne = has_room h.passed h.left h.whole h.ring h.way ne

    pub ringing_way : here ≡ last → IsFaultyWalkWay fs last first h.passed
    ringing_way e = ends_here h.passed h.left h.ring h.way e
