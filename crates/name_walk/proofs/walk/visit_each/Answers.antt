use Rattle.std.proofs.Common.{arith, ◌≡◌, ◌<◌, ℕ, List, Option, Some, None, get_or, length, refl, sym, ap, subst, ◌∙◌}
use Rattle.std.specs.List.{slice_get}
use Rattle.std.specs.Option.{MatchOption}
use Rattle.std.proofs.lemmas.Option.{slice_get-get_or}
use Rattle.name_walk.specs.declared.fault.Fault.{Fault}
use Rattle.name_walk.specs.declared.step.Step.{Step}
use Rattle.name_walk.specs.declared.step.Step.TheVariants.{Nowhere, To}
use Rattle.name_walk.specs.Faults.{DeadEnd}
use Rattle.name_walk.specs.Steps.{Graph, StayInGraph}
use Rattle.name_walk.specs.Walks.{walk_fault_view}
use Rattle.name_walk.proofs.QueryPasses.{all_walk_steps_are_passed, next_done, next_step_fault_is_walk_fault}
use Rattle.name_walk.proofs.QueryPasses.{next_visit, no_walk_step_passed_at_start, walk_finds_closed_name}
use Rattle.name_walk.proofs.walk.visit_each.Goals as goal
use Rattle.general_lemmas.proofs.Members.{member_at}

read : {A : Type 0} (xs : List A) (i : ℕ) (d : A) {x : A} → i < length xs → get_or xs i d ≡ x → slice_get xs i ≡ Some x
read xs i d l e = slice_get-get_or xs i d l ∙ ap Some e

-- a step of the query leads to a name of the graph
known : (g : Graph) (query : List Step) (i n : ℕ) → StayInGraph g query → i < length query
    → get_or query i (Nowhere 0) ≡ To n → n < length g
known g query i n are_known l e = are_known n (member_at _ _ _ (read query i (Nowhere 0) l e))

at_some : (r : Option Fault) (f : Fault) (P : Type 0) (Q : Fault → Type 0) → MatchOption r P Q → r ≡ Some f → Q f
at_some r f P Q m e = subst (λ (o : Option Fault). MatchOption o P Q) e m

at_none : (r : Option Fault) (P : Type 0) (Q : Fault → Type 0) → MatchOption r P Q → r ≡ None → P
at_none r P Q m e = subst (λ (o : Option Fault). MatchOption o P Q) e m

pub loop-step-init : goal.loop-step-init
loop-step-init c = record {
  passed = no_walk_step_passed_at_start _ _ _ c.requires.between c.requires.nothing;
  size =
      refl;
}

pub returns-in-Nowhere-clause-visited : goal.returns-in-Nowhere-clause-visited
returns-in-Nowhere-clause-visited c =
    next_step_fault_is_walk_fault _ c.args.query.now c.loop-step.step-index (Nowhere c.in-Nowhere.word)
    (DeadEnd c.in-Nowhere.word None)
    c.loop-step.invariant.passed.none (read _ _ _ c.loop-step-test.true c.in-Nowhere.is) refl

pub mark_of-requires-clause-settled : goal.mark_of-requires-clause-settled
mark_of-requires-clause-settled c =
    subst (λ (k : ℕ). c.in-To.start < k) (sym c.requires.net.mark_per_name)
    (known _ _ _ _ c.requires.query c.loop-step-test.true c.in-To.is)

pub mark_of-requires-clause-marked : goal.mark_of-requires-clause-marked
mark_of-requires-clause-marked c =
    subst (λ (k : ℕ). c.in-To.start < k) (sym c.loop-step.invariant.passed.between.in_target_order.mark_per_name)
    (known _ _ _ _ c.requires.query c.loop-step-test.true c.in-To.is)

pub loop-step-preserved-in_default : goal.loop-step-preserved-in_default
loop-step-preserved-in_default c =
    let off = c.loop-step.invariant.passed.between.off_path c.in-To.start in
    let found = walk_finds_closed_name c.args.net.now.settled.now c.loop-step.traces.marks c.in-To.start
    c.mark_of.result
    c.mark_of.ensures
    c.in_default.not-Open off in
    record {
      passed = next_done c.requires.net c.args.query.now c.loop-step.step-index c.loop-step.invariant.passed
          (read _ _ _ c.loop-step-test.true c.in-To.is)
          (known _ _ _ _ c.requires.query c.loop-step-test.true c.in-To.is) found;
      size = c.loop-step.invariant.size;
    }

pub returns-in-Some-clause-visited : goal.returns-in-Some-clause-visited
returns-in-Some-clause-visited c =
    next_step_fault_is_walk_fault _ c.args.query.now c.loop-step.step-index (To c.in-To.start)
    (walk_fault_view c.in-Some.fault)
    c.loop-step.invariant.passed.none (read _ _ _ c.loop-step-test.true c.in-To.is)
    (at_some _ _ _ _ c.in_ok-fault.ensures.visited c.in-Some.is)

pub loop-step-preserved : goal.loop-step-preserved
loop-step-preserved c = record {
  passed = next_visit c.requires.net c.args.query.now c.loop-step.step-index c.loop-step.invariant.passed
      (read _ _ _ c.loop-step-test.true c.in-To.is) c.visit.new.traces
      (at_none _ _ _ c.in_ok-fault.ensures.visited c.in_default-2.is);
  size = c.in_ok-fault.ensures.size ∙ c.loop-step.invariant.size;
}

pub returns-clause-visited : goal.returns-clause-visited
returns-clause-visited c =
    all_walk_steps_are_passed _ _ c.requires.net c.args.query.now c.loop-step.step-index c.loop-step.traces
    c.loop-step.invariant.passed
    (omega (arith, c.loop-step-test.false))
