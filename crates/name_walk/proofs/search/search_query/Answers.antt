use Rattle.std.proofs.Common.{arith, ◌≡◌, ◌<◌, ℕ, Bool, List, Some, get_or, length, sym, ap, subst, ◌∙◌}
use Rattle.std.specs.List.{slice_get}
use Rattle.std.proofs.lemmas.Option.{slice_get-get_or}
use Rattle.std.proofs.lemmas.Result.{IfOk-from_err}
use Rattle.name_walk.specs.declared.step.Step.{Step}
use Rattle.name_walk.specs.declared.step.Step.TheVariants.{Nowhere, To}
use Rattle.name_walk.specs.Findings.{IsFirstFaultyWalkStep}
use Rattle.name_walk.specs.Searches.{IsSearchedByWalk}
use Rattle.name_walk.specs.Steps.{Graph, StayInGraph}
use Rattle.name_walk.specs.Traces.{WalkTrace}
use Rattle.name_walk.specs.Trails.{Faults}
use Rattle.name_walk.proofs.SearchPasses.{faulty_names, passed_faulty, passed_names, passed_next, passed_none}
use Rattle.name_walk.proofs.SearchPasses.{passed_nowhere, passed_whole}
use Rattle.name_walk.proofs.search.search_query.Goals as goal
use Rattle.general_lemmas.proofs.Members.{member_at}

read : {A : Type 0} (xs : List A) (i : ℕ) (d : A) {x : A} → i < length xs → get_or xs i d ≡ x → slice_get xs i ≡ Some x
read xs i d l e = slice_get-get_or xs i d l ∙ ap Some e

-- a step of the query leads to a name of the graph
known : (g : Graph) (query : List Step) (i n : ℕ) → StayInGraph g query → i < length query
    → get_or query i (Nowhere 0) ≡ To n → n < length g
known g query i n are_known l e = are_known n (member_at _ _ _ (read query i (Nowhere 0) l e))

searched_as : {g : Graph} {s : List Bool} {n : ℕ} {now later : WalkTrace} {fs hs : Faults} {a b : Bool} → a ≡ b
    → IsSearchedByWalk g s n now later fs hs a → IsSearchedByWalk g s n now later fs hs b
searched_as {g} {s} {n} {now} {later} {fs} {hs} e h =
    subst (λ (c : Bool). IsSearchedByWalk g s n now later fs hs c) e h

pub loop-step-init : goal.loop-step-init
loop-step-init c = passed_none _ _ c.requires.net _ _ c.requires.between

pub returns-in-Nowhere-clause-can_clear : goal.returns-in-Nowhere-clause-can_clear
returns-in-Nowhere-clause-can_clear c = c.loop-step.invariant.between.consistent.can_clear

pub returns-in-Nowhere-clause-between : goal.returns-in-Nowhere-clause-between
returns-in-Nowhere-clause-between c = c.loop-step.invariant.between

pub returns-in-Nowhere-clause-names : goal.returns-in-Nowhere-clause-names
returns-in-Nowhere-clause-names c =
    passed_names _ _ c.requires.net c.args.query.now c.loop-step.step-index c.args.traces.now c.loop-step.traces
    c.loop-step.faults.items c.loop-step.invariant

pub returns-in-Nowhere-clause-found : goal.returns-in-Nowhere-clause-found
returns-in-Nowhere-clause-found c =
    subst (λ (x : Step). IsFirstFaultyWalkStep c.args.net.now.steps.now c.args.query.now c.loop-step.faults.items
    (Some x))
    (sym c.in-Nowhere.is)
    (passed_nowhere _ _ c.requires.net c.args.query.now c.loop-step.step-index c.args.traces.now c.loop-step.traces
    c.loop-step.faults.items c.loop-step.invariant c.in-Nowhere.field-0
    (read _ _ _ c.loop-step-test.true c.in-Nowhere.is))

pub is_faulty-requires-clause-net : goal.is_faulty-requires-clause-net
is_faulty-requires-clause-net c = c.requires.net

pub is_faulty-requires-clause-name : goal.is_faulty-requires-clause-name
is_faulty-requires-clause-name c = known _ _ _ _ c.requires.query c.loop-step-test.true c.in-To.is

pub is_faulty-requires-clause-between : goal.is_faulty-requires-clause-between
is_faulty-requires-clause-between c = c.loop-step.invariant.between

pub returns-in_err-is_faulty-clause-can_clear : goal.returns-in_err-is_faulty-clause-can_clear
returns-in_err-is_faulty-clause-can_clear c = c.in_err-is_faulty.ensures.can_clear

pub returns-in_err-is_faulty-clause-between : goal.returns-in_err-is_faulty-clause-between
returns-in_err-is_faulty-clause-between c = IfOk-from_err _ _ c.from_residual.ensures.0

pub returns-in_err-is_faulty-clause-names : goal.returns-in_err-is_faulty-clause-names
returns-in_err-is_faulty-clause-names c = IfOk-from_err _ _ c.from_residual.ensures.0

pub returns-in_err-is_faulty-clause-found : goal.returns-in_err-is_faulty-clause-found
returns-in_err-is_faulty-clause-found c = IfOk-from_err _ _ c.from_residual.ensures.0

pub returns-then-branch-clause-can_clear : goal.returns-then-branch-clause-can_clear
returns-then-branch-clause-can_clear c = c.in_ok-is_faulty.ensures.can_clear

pub returns-then-branch-clause-between : goal.returns-then-branch-clause-between
returns-then-branch-clause-between c = c.in_ok-is_faulty.ensures.found.state_between

pub returns-then-branch-clause-names : goal.returns-then-branch-clause-names
returns-then-branch-clause-names c =
    faulty_names _ _ c.requires.net c.args.query.now c.loop-step.step-index c.args.traces.now c.loop-step.traces
    c.loop-step.faults.items c.loop-step.invariant c.in-To.start (read _ _ _ c.loop-step-test.true c.in-To.is)
    c.is_faulty.new.traces c.is_faulty.new.faults.items
    (searched_as c.if-branch.true c.in_ok-is_faulty.ensures.found)

pub returns-then-branch-clause-found : goal.returns-then-branch-clause-found
returns-then-branch-clause-found c =
    passed_faulty _ _ c.requires.net c.args.query.now c.loop-step.step-index c.args.traces.now c.loop-step.traces
    c.loop-step.faults.items c.loop-step.invariant c.in-To.start (read _ _ _ c.loop-step-test.true c.in-To.is)
    c.is_faulty.new.traces c.is_faulty.new.faults.items
    (searched_as c.if-branch.true c.in_ok-is_faulty.ensures.found)

pub loop-step-preserved : goal.loop-step-preserved
loop-step-preserved c =
    passed_next _ _ c.requires.net c.args.query.now c.loop-step.step-index c.args.traces.now c.loop-step.traces
    c.loop-step.faults.items c.loop-step.invariant c.in-To.start (read _ _ _ c.loop-step-test.true c.in-To.is)
    (known _ _ _ _ c.requires.query c.loop-step-test.true c.in-To.is)
    c.is_faulty.new.traces c.is_faulty.new.faults.items
    (searched_as c.if-branch.false c.in_ok-is_faulty.ensures.found)

pub returns-clause-can_clear : goal.returns-clause-can_clear
returns-clause-can_clear c = c.loop-step.invariant.between.consistent.can_clear

pub returns-clause-between : goal.returns-clause-between
returns-clause-between c = c.loop-step.invariant.between

pub returns-clause-names : goal.returns-clause-names
returns-clause-names c =
    passed_names _ _ c.requires.net c.args.query.now c.loop-step.step-index c.args.traces.now c.loop-step.traces
    c.loop-step.faults.items c.loop-step.invariant

pub returns-clause-found : goal.returns-clause-found
returns-clause-found c =
    passed_whole _ _ c.requires.net c.args.query.now c.loop-step.step-index c.args.traces.now c.loop-step.traces
    c.loop-step.faults.items c.loop-step.invariant (omega (arith, c.loop-step-test.false))
