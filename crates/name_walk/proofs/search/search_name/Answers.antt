use Rattle.std.proofs.Common.{arith, ◌≡◌, ◌<◌, ◌≤◌, ℕ, zero, suc, Bool, false, List, [], ◌∷◌, Option}
use Rattle.std.proofs.Common.{Some, None, length, refl, sym, ap, subst, ◌∙◌, Vec, Global}
use Rattle.std.specs.List.{slice_get}
use Rattle.std.proofs.lemmas.Option.{slice_get_within}
use Rattle.std.proofs.lemmas.Result.{IfOk-from_err}
use Rattle.name_walk.specs.declared.mark.Mark.{Mark}
use Rattle.name_walk.specs.declared.traces.Frame.{Frame}
use Rattle.name_walk.specs.declared.trail.FaultyStep.{FaultyStep}
use Rattle.name_walk.specs.Findings.{CanClearWalk}
use Rattle.name_walk.specs.Searches.{IsOpenForWalk, IsPathEnding, IsSearchedByWalk}
use Rattle.name_walk.specs.Traces.{WalkTrace}
use Rattle.name_walk.proofs.Moves.{weight_at}
use Rattle.name_walk.proofs.SearchMoves.{IsSeekingAt, begin_seek, clear_closed, clear_seek, enter_seek, finish_seek}
use Rattle.name_walk.proofs.SearchMoves.{enter_less_seek, fault_clear_seek, fault_seek, leave_less_seek, leave_seek}
use Rattle.name_walk.proofs.SearchMoves.{name_there, next_there, pass_less_seek, pass_seek, path_there_seek, room_seek}
use Rattle.name_walk.proofs.search.search_name.Goals as goal

none_full : {A : Type 0} (xs : List A) (k : ℕ) {o : Option A} → o ≡ slice_get xs k → o ≡ None → length xs ≤ k
none_full {A} xs k e n = full xs k (sym e ∙ n)
  where
    full : (ys : List A) (j : ℕ) → slice_get ys j ≡ None → length ys ≤ j
    full [] j q = omega arith
    full (y ∷ ys) zero q = absurd (cc)
    full (y ∷ ys) (suc j) q = let l : length ys ≤ j = full ys j q in omega arith

of_frame : (P : ℕ → ℕ → Type 0) {f : Frame} {n p : ℕ} → f ≡ record { name = n; place = p } → P n p → P f.name f.place
of_frame P e h = subst (λ (x : Frame). P x.name x.place) (sym e) h

pub enter-requires : goal.enter-requires
enter-requires c = slice_get_within _ _ _ c.requires.fresh.mark

pub returns-in_err-enter-clause-can_clear : goal.returns-in_err-enter-clause-can_clear
returns-in_err-enter-clause-can_clear c =
    subst (λ (t : WalkTrace). CanClearWalk t.marks t.entered_names c.args.faults.now.items)
    (sym c.in_err-enter.ensures.err)
    c.requires.between.consistent.can_clear

pub returns-in_err-enter-clause-found : goal.returns-in_err-enter-clause-found
returns-in_err-enter-clause-found c = IfOk-from_err _ _ c.from_residual.ensures.0

pub loop-step-init : goal.loop-step-init
loop-step-init c = record {
  go = of_frame (IsSeekingAt _ _ _ _ _ _) c.first-here.ensures
      (begin_seek c.requires.net c.enter.new.self c.requires.between c.requires.fresh c.in_ok-enter.ensures.ok);
  same = refl;
}

pub step-requires : goal.step-requires
step-requires c = name_there c.requires.net c.loop-step.invariant.go

pub close-requires : goal.close-requires
close-requires c =
    let there = name_there c.requires.net c.loop-step.invariant.go in
    let size = c.loop-step.invariant.go.marks_size in
    omega (arith, there, size)

pub returns-in_err-close-clause-can_clear : goal.returns-in_err-close-clause-can_clear
returns-in_err-close-clause-can_clear c =
    subst (λ (v : Vec (Option FaultyStep) Global). CanClearWalk c.close.new.self.marks c.close.new.self.entered_names
    v.items)
    (sym c.loop-step.invariant.same)
    (clear_seek c.requires.net c.loop-step.invariant.go c.close.new.self c.in_err-close.ensures.err)

pub returns-in_err-close-clause-found : goal.returns-in_err-close-clause-found
returns-in_err-close-clause-found c = IfOk-from_err _ _ c.from_residual-in_err-close.ensures.0

pub returns-in_default-pop-clause-can_clear : goal.returns-in_default-pop-clause-can_clear
returns-in_default-pop-clause-can_clear c =
    subst (λ (v : Vec (Option FaultyStep) Global). CanClearWalk c.pop.new.self.marks c.pop.new.self.entered_names
    v.items)
    (sym c.loop-step.invariant.same)
    (clear_closed c.requires.net c.loop-step.invariant.go (none_full _ _ c.step.ensures.step c.in_default.is)
    c.in_ok-close.ensures.ok c.pop.new.self c.in_default-pop.ensures.0)

pub returns-in_default-pop-clause-found : goal.returns-in_default-pop-clause-found
returns-in_default-pop-clause-found c =
    subst (λ (v : Vec (Option FaultyStep) Global). IsSearchedByWalk c.args.net.now.steps.now c.args.net.now.settled.now
    c.args.start c.args.traces.now c.pop.new.self c.args.faults.now.items v.items false)
    (sym c.loop-step.invariant.same)
    (finish_seek c.requires.net c.loop-step.invariant.go (none_full _ _ c.step.ensures.step c.in_default.is)
    c.in_ok-close.ensures.ok c.pop.new.self c.in_default-pop.ensures.0 c.in_default-pop.ensures.1)

pub loop-step-preserved-in_default : goal.loop-step-preserved-in_default
loop-step-preserved-in_default c = record {
  go = of_frame (IsSeekingAt _ _ _ _ _ _) c.next-here.ensures
      (leave_seek c.requires.net c.loop-step.invariant.go (none_full _ _ c.step.ensures.step c.in_default.is)
      c.in_ok-close.ensures.ok c.in-Some-pop.above c.pop.new.self c.in-Some-pop.ensures);
  same = c.loop-step.invariant.same;
}

pub loop-step-preserved-in-Sound : goal.loop-step-preserved-in-Sound
loop-step-preserved-in-Sound c = record {
  go = of_frame (IsSeekingAt _ _ _ _ _ _) c.next-here-in-Sound.ensures
      (pass_seek c.requires.net c.loop-step.invariant.go c.in-Sound.ensures.0
      (sym c.step.ensures.step ∙ (c.in-Some.is ∙ ap Some c.in-Sound.ensures.1)) c.in-Sound.ensures.2);
  same = c.loop-step.invariant.same;
}

-- ---- steps and measures
less_of_frame : (w : ℕ → ℕ → ℕ) {f : Frame} {n p k : ℕ} → f ≡ record { name = n; place = p } → w n p < k
    → w f.name f.place < k
less_of_frame w {k = k} e l = of_frame (λ n p. w n p < k) e l

pub next-here-requires : goal.next-here-requires
next-here-requires c =
    room_seek c.requires.net c.loop-step.invariant.go (none_full _ _ c.step.ensures.step c.in_default.is)
    c.in_ok-close.ensures.ok c.in-Some-pop.above c.pop.new.self c.in-Some-pop.ensures

pub loop-step-smaller-in_default : goal.loop-step-smaller-in_default
loop-step-smaller-in_default c =
    less_of_frame (weight_at c.args.net.now.steps.now c.pop.new.self) c.next-here.ensures
    (leave_less_seek c.requires.net c.loop-step.invariant.go (none_full _ _ c.step.ensures.step c.in_default.is)
    c.in_ok-close.ensures.ok c.in-Some-pop.above c.pop.new.self c.in-Some-pop.ensures)

pub step_finding-requires : goal.step_finding-requires
step_finding-requires c = record {
  known = λ m e.
      let r = next_there c.requires.net c.loop-step.invariant.go m
      (sym c.step.ensures.step ∙ (c.in-Some.is ∙ ap Some e)) in (
        r.0,
        r.1,
        subst (λ (xs : List (Option FaultyStep)). m < length xs)
            (sym (c.deref.ensures.value ∙ ap (λ (v : Vec (Option FaultyStep) Global). v.items)
            c.loop-step.invariant.same)) r.2,
      );
}

pub next-here-requires-in-Sound : goal.next-here-requires-in-Sound
next-here-requires-in-Sound c = c.in-Some.ensures.few

pub loop-step-smaller-in-Sound : goal.loop-step-smaller-in-Sound
loop-step-smaller-in-Sound c =
    less_of_frame (weight_at c.args.net.now.steps.now c.loop-step.traces) c.next-here-in-Sound.ensures
    (pass_less_seek c.requires.net c.loop-step.invariant.go c.in-Some.step (sym c.step.ensures.step ∙ c.in-Some.is))

pub returns-in_err-push-in-Open-clause-can_clear : goal.returns-in_err-push-in-Open-clause-can_clear
returns-in_err-push-in-Open-clause-can_clear c =
    subst (λ (v : Vec (Option FaultyStep) Global). CanClearWalk c.push.new.self.marks c.push.new.self.entered_names
    v.items)
    (sym c.loop-step.invariant.same)
    (clear_seek c.requires.net c.loop-step.invariant.go c.push.new.self c.in_err-push-in-Open.ensures.err)

pub returns-in_err-push-in-Open-clause-found : goal.returns-in_err-push-in-Open-clause-found
returns-in_err-push-in-Open-clause-found c = IfOk-from_err _ _ c.from_residual-in_err-push-in-Open.ensures.0

pub note_path-requires-clause-once : goal.note_path-requires-clause-once
note_path-requires-clause-once c = c.loop-step.invariant.go.way.is_path.names_differ

pub note_path-requires-clause-there : goal.note_path-requires-clause-there
note_path-requires-clause-there c n i =
    subst (λ (v : Vec (Option FaultyStep) Global). n < length v.items) (sym c.loop-step.invariant.same)
    (path_there_seek c.requires.net c.loop-step.invariant.go n i)

-- ---- an open name
abbrev items_of : Vec (Option FaultyStep) Global → List (Option FaultyStep)
items_of v = v.items

open_there : {s : List Bool} {ms : List Mark} {fs hs : List (Option FaultyStep)} {m : ℕ} → hs ≡ fs
    → IsOpenForWalk s ms hs m
    → IsOpenForWalk s ms fs m
open_there {s} {ms} {m = m} e o = subst (λ (xs : List (Option FaultyStep)). IsOpenForWalk s ms xs m) e o

pub enter-requires-in-Open : goal.enter-requires-in-Open
enter-requires-in-Open c =
    subst (λ (t : WalkTrace). c.in-Open.next < length t.marks) (sym c.in_ok-push-in-Open.ensures.ok)
    (slice_get_within _ _ _ c.in-Open.ensures.1.mark)

pub returns-in_err-enter-in-Open-clause-can_clear : goal.returns-in_err-enter-in-Open-clause-can_clear
returns-in_err-enter-in-Open-clause-can_clear c =
    subst (λ (v : Vec (Option FaultyStep) Global). CanClearWalk c.enter-in-Open.new.self.marks
    c.enter-in-Open.new.self.entered_names v.items) (sym c.loop-step.invariant.same)
    (subst (λ (t : WalkTrace). CanClearWalk t.marks t.entered_names c.args.faults.now.items)
    (sym (c.in_err-enter-in-Open.ensures.err ∙ c.in_ok-push-in-Open.ensures.ok))
    (clear_seek c.requires.net c.loop-step.invariant.go c.loop-step.traces refl))

pub returns-in_err-enter-in-Open-clause-found : goal.returns-in_err-enter-in-Open-clause-found
returns-in_err-enter-in-Open-clause-found c = IfOk-from_err _ _ c.from_residual-in_err-enter-in-Open.ensures.0

pub loop-step-smaller : goal.loop-step-smaller
loop-step-smaller c =
    less_of_frame (weight_at c.args.net.now.steps.now c.enter-in-Open.new.self) c.first-here-in-Open.ensures
    (enter_less_seek c.requires.net c.loop-step.invariant.go c.in-Open.next c.push.new.self c.enter-in-Open.new.self
    (sym c.step.ensures.step ∙ (c.in-Some.is ∙ ap Some c.in-Open.ensures.0))
    (open_there (c.deref.ensures.value ∙ ap items_of c.loop-step.invariant.same) c.in-Open.ensures.1)
    c.in_ok-push-in-Open.ensures.ok c.in_ok-enter-in-Open.ensures.ok)

pub loop-step-preserved : goal.loop-step-preserved
loop-step-preserved c = record {
  go = of_frame (IsSeekingAt _ _ _ _ _ _) c.first-here-in-Open.ensures
      (enter_seek c.requires.net c.loop-step.invariant.go c.in-Open.next c.push.new.self c.enter-in-Open.new.self
      (sym c.step.ensures.step ∙ (c.in-Some.is ∙ ap Some c.in-Open.ensures.0))
      (open_there (c.deref.ensures.value ∙ ap items_of c.loop-step.invariant.same) c.in-Open.ensures.1)
      c.in-Some.ensures.few c.in_ok-push-in-Open.ensures.ok c.in_ok-enter-in-Open.ensures.ok);
  same = c.loop-step.invariant.same;
}

-- ---- a fault
pub returns-in-Faulty-clause-can_clear : goal.returns-in-Faulty-clause-can_clear
returns-in-Faulty-clause-can_clear c =
    let same = ap items_of c.loop-step.invariant.same in
    fault_clear_seek c.requires.net c.loop-step.invariant.go c.note_path.new.faults.items c.in-Some.step
    c.in-Faulty.ending (sym c.step.ensures.step ∙ c.in-Some.is)
    (subst (λ (xs : List (Option FaultyStep)). IsPathEnding c.loop-step.traces.marks xs c.loop-step.here.name
    c.in-Some.step c.in-Faulty.ending) (c.deref.ensures.value ∙ same) c.in-Faulty.ensures)
    c.note_path.ensures.noted
    (λ n out. c.note_path.ensures.others n out ∙ ap (λ (xs : List (Option FaultyStep)). slice_get xs n) same)
    (c.note_path.ensures.size ∙ ap (λ (xs : List (Option FaultyStep)). length xs) same)
    c.note_path.new.traces c.note_path.ensures.traces

pub returns-in-Faulty-clause-found : goal.returns-in-Faulty-clause-found
returns-in-Faulty-clause-found c =
    let same = ap items_of c.loop-step.invariant.same in
    fault_seek c.requires.net c.loop-step.invariant.go c.note_path.new.faults.items c.in-Some.step
    c.in-Faulty.ending (sym c.step.ensures.step ∙ c.in-Some.is)
    (subst (λ (xs : List (Option FaultyStep)). IsPathEnding c.loop-step.traces.marks xs c.loop-step.here.name
    c.in-Some.step c.in-Faulty.ending) (c.deref.ensures.value ∙ same) c.in-Faulty.ensures)
    c.note_path.ensures.noted
    (λ n out. c.note_path.ensures.others n out ∙ ap (λ (xs : List (Option FaultyStep)). slice_get xs n) same)
    (c.note_path.ensures.size ∙ ap (λ (xs : List (Option FaultyStep)). length xs) same)
    c.note_path.new.traces c.note_path.ensures.traces
