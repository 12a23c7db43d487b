use Rattle.std.proofs.Common.{arith, ◌≡◌, ◌<◌, ◌≤◌, ℕ, zero, suc, List, [], ◌∷◌, Option, Some, None}
use Rattle.std.proofs.Common.{length, refl, sym, ap, subst, ◌∙◌}
use Rattle.std.specs.List.{slice_get}
use Rattle.name_walk.specs.declared.traces.Frame.{Frame}
use Rattle.name_walk.specs.Traces.{WalkTrace}
use Rattle.name_walk.proofs.Moves.{IsGoingAt, begin_at, cycle_at, dead_end_at, enter_at, entered_at, finish_at}
use Rattle.name_walk.proofs.Moves.{is_on_at, leave_at, leave_less_at, next_at, pass_at, room_at, there_at, weight_at}
use Rattle.name_walk.proofs.visit.visit.Goals as goal

-- if there is no element at a place, the place is past the end
none_full : {A : Type 0} (xs : List A) (k : ℕ) {o : Option A} → o ≡ slice_get xs k → o ≡ None → length xs ≤ k
none_full {A} xs k e n = full xs k (sym e ∙ n)
  where
    full : (ys : List A) (j : ℕ) → slice_get ys j ≡ None → length ys ≤ j
    full [] j q = omega arith
    full (y ∷ ys) zero q = absurd (cc)
    full (y ∷ ys) (suc j) q = let l : length ys ≤ j = full ys j q in omega arith

-- the step that was read
step_is : {A : Type 0} {r o : Option A} {x y : A} → r ≡ o → r ≡ Some x → x ≡ y → o ≡ Some y
step_is read some is = sym read ∙ (some ∙ ap Some is)

-- a property of a name and a place holds for their frame
of_frame : (P : ℕ → ℕ → Type 0) {f : Frame} {n p : ℕ} → f ≡ record { name = n; place = p } → P n p → P f.name f.place
of_frame P e h = subst (λ (x : Frame). P x.name x.place) (sym e) h

less_of_frame : (w : ℕ → ℕ → ℕ) {f : Frame} {n p k : ℕ} → f ≡ record { name = n; place = p } → w n p < k
    → w f.name f.place < k
less_of_frame w {k = k} e l = of_frame (λ n p. w n p < k) e l

pub loop-traces-init : goal.loop-traces-init
loop-traces-init c =
    of_frame (IsGoingAt _ _ _ _ _) c.first-here.ensures
    (begin_at c.requires.net c.args.traces.now c.enter.new.self c.requires.between c.requires.fresh
    c.in_ok-enter.ensures.ok)

pub step-requires : goal.step-requires
step-requires c = (there_at c.requires.net c.loop-traces.invariant).0

pub close-requires : goal.close-requires
close-requires c = (there_at c.requires.net c.loop-traces.invariant).1

pub returns-in_default-clause-entered : goal.returns-in_default-clause-entered
returns-in_default-clause-entered c =
    entered_at c.requires.net c.loop-traces.invariant
    (none_full _ _ c.step.ensures.step c.in-None.is) c.in_ok-close-in-None.ensures.ok
    c.pop.new.self c.in_default.ensures.0

pub returns-in_default-clause-visited : goal.returns-in_default-clause-visited
returns-in_default-clause-visited c =
    finish_at c.requires.net c.loop-traces.invariant
    (none_full _ _ c.step.ensures.step c.in-None.is) c.in_ok-close-in-None.ensures.ok
    c.args.traces.now c.pop.new.self refl c.in_default.ensures.0 c.in_default.ensures.1

pub next-here-requires : goal.next-here-requires
next-here-requires c =
    room_at c.requires.net c.loop-traces.invariant
    (none_full _ _ c.step.ensures.step c.in-None.is) c.in_ok-close-in-None.ensures.ok
    c.in-Some.above c.pop.new.self c.in-Some.ensures

pub loop-traces-smaller-in-None : goal.loop-traces-smaller-in-None
loop-traces-smaller-in-None c =
    less_of_frame (weight_at c.args.net.now.steps.now c.pop.new.self) c.next-here.ensures
    (leave_less_at c.requires.net c.loop-traces.invariant
    (none_full _ _ c.step.ensures.step c.in-None.is) c.in_ok-close-in-None.ensures.ok
    c.in-Some.above c.pop.new.self c.in-Some.ensures)

pub loop-traces-preserved-in-None : goal.loop-traces-preserved-in-None
loop-traces-preserved-in-None c =
    of_frame (IsGoingAt _ _ _ _ _) c.next-here.ensures
    (leave_at c.requires.net c.loop-traces.invariant
    (none_full _ _ c.step.ensures.step c.in-None.is) c.in_ok-close-in-None.ensures.ok
    c.in-Some.above c.pop.new.self c.in-Some.ensures)

pub returns-in-Some-Nowhere-clause-visited : goal.returns-in-Some-Nowhere-clause-visited
returns-in-Some-Nowhere-clause-visited c =
    dead_end_at c.requires.net c.loop-traces.invariant c.in-Some-Nowhere.word
    (step_is c.step.ensures.step c.in-Some-Nowhere.is c.in-Some-Nowhere.field-0-is)

pub mark_of-requires-clause-settled : goal.mark_of-requires-clause-settled
mark_of-requires-clause-settled c =
    (next_at c.requires.net c.loop-traces.invariant c.in-Some-To.next
    (step_is c.step.ensures.step c.in-Some-To.is c.in-Some-To.field-0-is)).1

pub mark_of-requires-clause-marked : goal.mark_of-requires-clause-marked
mark_of-requires-clause-marked c =
    (next_at c.requires.net c.loop-traces.invariant c.in-Some-To.next
    (step_is c.step.ensures.step c.in-Some-To.is c.in-Some-To.field-0-is)).2

pub loop-traces-preserved-in-Closed : goal.loop-traces-preserved-in-Closed
loop-traces-preserved-in-Closed c =
    of_frame (IsGoingAt _ _ _ _ _) c.next-here-in-Closed.ensures
    (pass_at c.requires.net c.loop-traces.invariant c.in-Some-To.next
    (step_is c.step.ensures.step c.in-Some-To.is c.in-Some-To.field-0-is) c.in-Closed.ensures)

pub chain-requires : goal.chain-requires
chain-requires c =
    is_on_at c.requires.net c.loop-traces.invariant c.in-Some-To.next c.frames.result.now
    c.in-OnPath.ensures c.frames.ensures

pub returns-in-OnPath-clause-visited : goal.returns-in-OnPath-clause-visited
returns-in-OnPath-clause-visited c =
    cycle_at c.requires.net c.loop-traces.invariant c.in-Some-To.next c.frames.result.now
    c.in_ok-names-in-OnPath.names.items
    (step_is c.step.ensures.step c.in-Some-To.is c.in-Some-To.field-0-is) c.in-OnPath.ensures c.frames.ensures
    c.in_ok-names-in-OnPath.ensures

pub enter-requires-in-Open : goal.enter-requires-in-Open
enter-requires-in-Open c =
    subst (λ (t : WalkTrace). c.in-Some-To.next < length t.marks) (sym c.in_ok-push-in-Open.ensures.ok)
    (next_at c.requires.net c.loop-traces.invariant c.in-Some-To.next
    (step_is c.step.ensures.step c.in-Some-To.is c.in-Some-To.field-0-is)).2

pub loop-traces-smaller : goal.loop-traces-smaller
loop-traces-smaller c =
    less_of_frame (weight_at c.args.net.now.steps.now c.enter-in-Open.new.self) c.first-here-in-Open.ensures
    ((enter_at c.requires.net c.loop-traces.invariant c.in-Some-To.next c.push.new.self c.enter-in-Open.new.self
    (step_is c.step.ensures.step c.in-Some-To.is c.in-Some-To.field-0-is) c.in-Open.ensures c.in-Some-To.ensures.few
    c.in_ok-push-in-Open.ensures.ok c.in_ok-enter-in-Open.ensures.ok).1)

pub loop-traces-preserved : goal.loop-traces-preserved
loop-traces-preserved c =
    of_frame (IsGoingAt _ _ _ _ _) c.first-here-in-Open.ensures
    ((enter_at c.requires.net c.loop-traces.invariant c.in-Some-To.next c.push.new.self c.enter-in-Open.new.self
    (step_is c.step.ensures.step c.in-Some-To.is c.in-Some-To.field-0-is) c.in-Open.ensures c.in-Some-To.ensures.few
    c.in_ok-push-in-Open.ensures.ok c.in_ok-enter-in-Open.ensures.ok).0)
