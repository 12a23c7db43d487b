use Rattle.std.proofs.Common.{◌&&◌, ◌||◌, Bool, Err, List, Option, ap, is_some, not, subst, sym, true, ℕ}
use Rattle.std.specs.Prelude.{IfOk}
use Rattle.deck.specs.FileLoads.{IsDeckLoaded, deck_after_loading}
use Rattle.units_run.specs.Definitions.{no_deck_run_line}
use Rattle.units_run.specs.Plans.{complaint_plan}
use Rattle.units_run.specs.ProgramPlans.{IsPlan, IsPlanned, IsPossiblePlan}
use Rattle.units_run.specs.Work.{deck_plan, plan_of_work}
use Rattle.units_run.specs.declared.status.Status.TheVariants.{NoFile}
use Rattle.units_run.proofs.WordPlans.{needed_run_value_is_known, plan_without_deck}
use Rattle.units_run.proofs.words_plan.deck_plan.Goals as goal

pub returns-in-Err-clause-if_known : goal.returns-in-Err-clause-if_known
returns-in-Err-clause-if_known g c = λ m s.
    let line = c.args.line.now in
    let n = c.args.steps.now in
    let missing = c.no_deck_plan in
    subst (λ (f : Option (List ℕ)). IsPlanned (deck_plan f line c.args.settings m) m missing.result n n)
    (sym c.in-Some.is)
    (plan_without_deck (deck_after_loading m c.in-Some.name c.args.settings) c.in-Err.fault line c.in-Some.name m
    missing.result n
    missing.ensures.fault
    (subst (λ (name : List ℕ). IsDeckLoaded (deck_after_loading m name c.args.settings) (Err c.in-Err.fault))
    c.as_bytes.ensures
    (c.in-Err.ensures.known m
    (needed_run_value_is_known (is_some line.file) (g.F.Files.files c.args.files.now) m (ap is_some c.in-Some.is) s)))
    (subst (λ (name : List ℕ). IsPlanned (complaint_plan (no_deck_run_line c.in-Err.fault name) NoFile) m missing.result
    n n)
    c.as_bytes-in-Err.ensures (missing.ensures.if_known m n)))

pub returns-in-Err-clause-kind : goal.returns-in-Err-clause-kind
returns-in-Err-clause-kind g c =
    let line = c.args.line.now in
    let session = not (is_some line.from || line.check) in
    let column = is_some line.from && is_some line.column in
    subst (λ (file : Bool). IfOk c.no_deck_plan.result (IsPossiblePlan true file session column))
    (sym (ap is_some c.in-Some.is))
    (c.no_deck_plan.ensures.kind session column)

pub returns-in_default-clause-if_known : goal.returns-in_default-clause-if_known
returns-in_default-clause-if_known g c = λ m s.
    let line = c.args.line.now in
    let plan = c.in_ok-work.field-0 in
    let old = c.args.steps.now in
    let new = c.work.new.steps in
    subst (λ (file : Option (List ℕ)). IsPlan (deck_plan file line c.args.settings m) m plan old new)
    (sym c.in_default.is)
    (subst (λ deck. IsPlan (plan_of_work line.from line deck m) m plan old new) c.in_ok-deck.ensures
    (c.in_ok-work.ensures.if_known m))
