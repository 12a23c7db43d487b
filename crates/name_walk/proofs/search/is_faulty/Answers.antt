use Rattle.std.proofs.Common.{arith, ◌≡◌, ◌<◌, ◌≤◌, ℕ, Bool, List, Option, Some, None, true, false, length, get_or}
use Rattle.std.proofs.Common.{refl, sym, ap, subst, ◌∙◌, inl, inr}
use Rattle.std.specs.Option.{is_some}
use Rattle.std.proofs.lemmas.Option.{same_Some, slice_get-get_or}
use Rattle.name_walk.specs.declared.mark.Mark.{Mark}
use Rattle.name_walk.specs.declared.mark.Mark.TheVariants.{Closed, OnPath, Open}
use Rattle.name_walk.specs.declared.trail.FaultyStep.{FaultyStep}
use Rattle.name_walk.specs.ClosedNames.{IsSettledOrWalked}
use Rattle.name_walk.specs.Findings.{IsConsistentWalkTrace}
use Rattle.name_walk.specs.Searches.{IsBetweenWalkSearches, IsDecidedByWalk, IsSearchedByWalk}
use Rattle.name_walk.specs.Steps.{Graph}
use Rattle.name_walk.specs.Traces.{WalkTrace}
use Rattle.name_walk.specs.Trails.{Faults, IsFaultyInWalk}
use Rattle.name_walk.specs.Visits.{IsWalkMarkFound}
use Rattle.name_walk.proofs.search.is_faulty.Goals as goal

within : {n a b : ℕ} → n < a → a ≤ b → n < b
within p q = omega (arith, p, q)

-- whether a name has a fault, by its entry
has_fault : (fs : Faults) (n : ℕ) (x : Option FaultyStep) → n < length fs → x ≡ get_or fs n x → is_some x ≡ true
    → IsFaultyInWalk fs n
has_fault fs n None l e z = cc
has_fault fs n (Some f) l e z = (f, slice_get-get_or fs n (Some f) l ∙ ap Some (sym e))

has_no_fault : (fs : Faults) (n : ℕ) (x : Option FaultyStep) → n < length fs → x ≡ get_or fs n x → is_some x ≡ false
    → IsFaultyInWalk fs n → ⊥
has_no_fault fs n x l e z h =
    let found : Some (get_or fs n x) ≡ Some (Some h.0) = sym (slice_get-get_or fs n x l) ∙ h.1 in
    let same : x ≡ Some h.0 = e ∙ same_Some (get_or fs n x) (Some h.0) found in
    let some : true ≡ false = sym (ap is_some same) ∙ z in
    cc

-- a name that has no fault and is not open is settled or sound
is_sound : (s : List Bool) (t : WalkTrace) (fs : Faults) (n : ℕ) (m : Mark) → IsConsistentWalkTrace t fs
    → IsWalkMarkFound s t.marks n m → (m ≡ Open → ⊥) → (IsFaultyInWalk fs n → ⊥) → IsSettledOrWalked s t.order n
is_sound s t fs n Closed h found shut faulty = elim found [ inl k ↦ inl k | inr k ↦ inr (h.marked_in_order n k) ]
is_sound s t fs n OnPath h found shut faulty = absurd (faulty (h.off_path n found))
is_sound s t fs n Open h found shut faulty = absurd (shut refl)

-- nothing is learnt about a name that is decided
is_searched : {g : Graph} {s : List Bool} {n : ℕ} {t : WalkTrace} {fs : Faults} (b : Bool)
    → IsBetweenWalkSearches g s t fs → IsDecidedByWalk s t.order fs n b → IsSearchedByWalk g s n t t fs fs b
is_searched b between decision = record {
  state_between = between;
  more = record { order_grows = λ n i. i; faults_grow = λ n i. i; names = λ n i. inl i };
  decision = decision;
}

pub returns-then-is_some : goal.returns-then-is_some
returns-then-is_some c = record {
  can_clear = c.requires.between.consistent.can_clear;
  found = is_searched true c.requires.between
      (has_fault c.args.faults.now.items c.args.name c.index.result.now
      (within c.requires.name c.requires.between.fault_room) c.index.ensures
      (sym c.is_some.ensures ∙ c.if-is_some.true));
}

pub mark_of-requires : goal.mark_of-requires
mark_of-requires c = record {
  settled = subst (λ (k : ℕ). c.args.name < k) (sym c.requires.net.mark_per_name) c.requires.name;
  marked = within c.requires.name c.requires.between.marks;
}

pub returns-in_default : goal.returns-in_default
returns-in_default c = record {
  can_clear = c.requires.between.consistent.can_clear;
  found = is_searched false c.requires.between
      (is_sound c.args.net.now.settled.now c.args.traces.now c.args.faults.now.items c.args.name c.mark_of.result
      c.requires.between.consistent c.mark_of.ensures c.in_default.not-Open
      (has_no_fault c.args.faults.now.items c.args.name c.index.result.now
      (within c.requires.name c.requires.between.fault_room) c.index.ensures
      (sym c.is_some.ensures ∙ c.if-is_some.false)));
}

pub search_name-requires : goal.search_name-requires
search_name-requires c =
    let found = subst (λ (m : Mark). IsWalkMarkFound c.args.net.now.settled.now c.args.traces.now.marks c.args.name m)
    c.in-Open.is c.mark_of.ensures in
    record {
      net = c.requires.net;
      between = c.requires.between;
      fresh = record {
        not_settled = found.0;
        mark = found.1;
        not_faulty = has_no_fault c.args.faults.now.items c.args.name c.index.result.now
            (within c.requires.name c.requires.between.fault_room) c.index.ensures
            (sym c.is_some.ensures ∙ c.if-is_some.false);
      };
    }

pub returns : goal.returns
returns c = record { can_clear = c.search_name.ensures.can_clear; found = c.search_name.ensures.found }
