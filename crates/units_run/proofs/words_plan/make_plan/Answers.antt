use Rattle.std.proofs.Common.{Err, ap, subst, ◌∙◌, ℕ, List, Bool, refl, sym}
use Rattle.command_line.specs.Fields.{command_line_of}
use Rattle.command_line.specs.AcceptedWords.{are_command_words_accepted}
use Rattle.units_run.specs.Endings.{RunMayEnd}
use Rattle.units_run.specs.Needs.{run_converts_column, run_loads_file, run_opens_session}
use Rattle.units_run.specs.ProgramPlans.{IsPlan, IsPlanned}
use Rattle.units_run.specs.Plans as plans
use Rattle.units_run.specs.Plans.{complaint_plan}
use Rattle.units_run.specs.declared.status.Status.TheVariants.{Usage}
use Rattle.units_run.proofs.WordPlans.{plan_of_invalid_words, plan_of_valid_words, run_of_invalid_words_leads_nowhere}
use Rattle.units_run.proofs.WordPlans.{run_without_file_loads_none, run_value_known_for_lesser_need}
use Rattle.units_run.proofs.words_plan.make_plan.Goals as goal

pub returns-in-Ok-clause-if_known : goal.returns-in-Ok-clause-if_known
returns-in-Ok-clause-if_known g c = λ m s.
    let words = c.args.words.now in
    let read = c.in-Ok.ensures in
    subst (λ (p : plans.Plan). IsPlanned p m c.line_plan.result c.args.steps.now c.line_plan.new.steps)
    (plan_of_valid_words words c.args.vars.now m c.in-Ok.line read.taken read.read)
    (c.line_plan.ensures.if_known m
    (run_value_known_for_lesser_need _ _ _ m (run_without_file_loads_none words c.in-Ok.line read.taken read.read) s))

pub returns-in_ok-complaint-in-Err-Usage-clause-if_known : goal.returns-in_ok-complaint-in-Err-Usage-clause-if_known
returns-in_ok-complaint-in-Err-Usage-clause-if_known g c = λ m s.
    let plan = c.in_ok-complaint-in-Err-Usage in
    subst (λ (p : plans.Plan). IsPlan p m plan.field-0 c.args.steps.now c.args.steps.now)
    (ap (λ (t : List ℕ). complaint_plan t Usage) c.usage_text.ensures
    ∙ plan_of_invalid_words c.args.words.now c.args.vars.now m
    (c.in-Err-Usage.ensures.usage (ap Err c.in-Err-Usage.field-0-is)))
    (plan.ensures.if_known m c.args.steps.now)

pub returns-in_ok-complaint-in-Err-Usage-clause-kind : goal.returns-in_ok-complaint-in-Err-Usage-clause-kind
returns-in_ok-complaint-in-Err-Usage-clause-kind g c =
    let words = c.args.words.now in
    let untaken = c.in-Err-Usage.ensures.usage (ap Err c.in-Err-Usage.field-0-is) in
    c.in_ok-complaint-in-Err-Usage.ensures.kind (are_command_words_accepted words)
    (run_loads_file (command_line_of words))
    (run_opens_session words) (run_converts_column words)
    (λ leads. absurd (run_of_invalid_words_leads_nowhere words untaken leads))
    (subst (λ (b : Bool). RunMayEnd b (run_loads_file (command_line_of words)) (run_opens_session words) Usage)
    (sym untaken) refl)

pub returns-in-Ok-clause-unloaded : goal.returns-in-Ok-clause-unloaded
returns-in-Ok-clause-unloaded g c = λ none.
    let read = c.in-Ok.ensures in
    c.line_plan.ensures.unasked (run_without_file_loads_none c.args.words.now c.in-Ok.line read.taken read.read none)
