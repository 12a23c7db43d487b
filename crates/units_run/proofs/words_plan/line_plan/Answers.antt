use Rattle.std.proofs.Common.{ℕ, Option, subst, sym}
use Rattle.deck.specs.declared.settings.Settings.{Settings}
use Rattle.session.specs.Trials.{trial_session}
use Rattle.units_run.specs.Options.{run_options}
use Rattle.units_run.specs.ProgramPlans.{IsPlan}
use Rattle.units_run.specs.Settings.{run_settings}
use Rattle.units_run.specs.Work.{plan_of_trial_or_deck, trial_plan}
use Rattle.units_run.proofs.words_plan.line_plan.Goals as goal

pub returns-in_ok-trial_plan-in-Some-clause-if_known :
    goal.returns-in_ok-trial_plan-in-Some-clause-if_known
returns-in_ok-trial_plan-in-Some-clause-if_known g c = λ m s.
    let line = c.args.line.now in
    let plan = c.in_ok-trial_plan-in-Some in
    let old = c.args.steps.now in
    let new = c.trial_plan.new.steps in
    subst
    (λ (rounds : Option ℕ). IsPlan (plan_of_trial_or_deck rounds line (run_settings line c.args.vars.now) m) m
    plan.field-0 old new)
    (sym c.in-Some.is)
    (subst
    (λ (st : Settings). IsPlan (trial_plan (trial_session (run_options line) st c.in-Some.rounds)) m plan.field-0 old
    new)
    c.in_ok-settings.ensures (plan.ensures.if_known m))
