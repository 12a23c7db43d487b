use Rattle.std.proofs.Common.{[], None, unwrap_or, ◌&&◌, ◌||◌, ℕ, List, Bool, Option, Some, true, false, is_some, not}
use Rattle.std.proofs.Common.{ap, subst, sym, ◌∙◌, if◌then◌else◌}
use Rattle.live_table.specs.TableView.{LiveView}
use Rattle.units_run.specs.ProgramPlans.{IsPlanned}
use Rattle.def_lines.specs.Lines.{line_content}
use Rattle.units_run.specs.Plans.{Plan as Planned}
use Rattle.units_run.specs.Work.{from_plan, plan_of_check, plan_of_session, plan_of_work}
use Rattle.units_run.proofs.DeckPlans.{plan_kind_of_words, plan_of_given_from}
use Rattle.units_run.proofs.work.work.Goals as goal

pub returns-in-Some-column-clause-if_known : goal.returns-in-Some-column-clause-if_known
returns-in-Some-column-clause-if_known g c = λ m.
    let line = c.args.line.now in
    let n = c.args.steps.now in
    subst (λ (p : Planned). IsPlanned p m c.column_plan.result n n)
    (plan_of_given_from line c.args.deck m c.as_bytes.result.now c.in-Some.from (Some c.in-Some-column.column)
    c.in-Some.is
    c.as_bytes.ensures c.in-Some-column.is)
    (subst
    (λ (t : LiveView). IsPlanned
    (from_plan (Some c.in-Some-column.column) line (line_content c.as_bytes.result.now)
    (line_content (unwrap_or line.to []))
    t.deck) m c.column_plan.result n n)
    c.new-table.ensures (c.column_plan.ensures.if_known m n))

pub returns-in-Some-column-clause-kind : goal.returns-in-Some-column-clause-kind
returns-in-Some-column-clause-kind g c =
    plan_kind_of_words c.column_plan.result c.args.line.now.from c.args.line.now.check c.args.line.now.column false true
    (ap (λ (from : Option (List ℕ)). not (is_some from || c.args.line.now.check)) c.in-Some.is)
    (ap (λ (from : Option (List ℕ)). is_some from && is_some c.args.line.now.column) c.in-Some.is
    ∙ ap is_some c.in-Some-column.is)
    c.column_plan.ensures.kind

pub returns-in_default-clause-if_known : goal.returns-in_default-clause-if_known
returns-in_default-clause-if_known g c = λ m.
    let line = c.args.line.now in
    let old = c.args.steps.now in
    let new = c.reply_plan-plan.new.steps in
    subst (λ (p : Planned). IsPlanned p m c.reply_plan-plan.result old new)
    (plan_of_given_from line c.args.deck m c.as_bytes-in-Some.result.now c.in-Some.from None c.in-Some.is
    c.as_bytes-in-Some.ensures c.in_default.is)
    (subst
    (λ (t : LiveView). IsPlanned
    (from_plan None line (line_content c.as_bytes-in-Some.result.now) (line_content (unwrap_or line.to [])) t.deck) m
    c.reply_plan-plan.result old new)
    c.new-table.ensures (c.reply_plan-plan.ensures.if_known m))

pub returns-in_default-clause-kind : goal.returns-in_default-clause-kind
returns-in_default-clause-kind g c =
    plan_kind_of_words c.reply_plan-plan.result c.args.line.now.from c.args.line.now.check c.args.line.now.column false
    false
    (ap (λ (from : Option (List ℕ)). not (is_some from || c.args.line.now.check)) c.in-Some.is)
    (ap (λ (from : Option (List ℕ)). is_some from && is_some c.args.line.now.column) c.in-Some.is
    ∙ ap is_some c.in_default.is)
    c.reply_plan-plan.ensures.kind

pub returns-then-line-clause-if_known : goal.returns-then-line-clause-if_known
returns-then-line-clause-if_known g c = λ m.
    let line = c.args.line.now in
    let n = c.args.steps.now in
    subst (λ (from : Option (List ℕ)). IsPlanned (plan_of_work from line c.args.deck m) m c.check_plan.result n n)
    (sym c.in-None.is)
    (subst
    (λ (b : Bool). IsPlanned (if b then plan_of_check line c.args.deck else plan_of_session line c.args.deck m) m
    c.check_plan.result n n)
    (sym c.if-line.true)
    (subst (λ (t : LiveView). IsPlanned (plan_of_check line t.deck) m c.check_plan.result n n) c.new-table.ensures
    (c.check_plan.ensures.if_known m n)))

pub returns-then-line-clause-kind : goal.returns-then-line-clause-kind
returns-then-line-clause-kind g c =
    plan_kind_of_words c.check_plan.result c.args.line.now.from c.args.line.now.check c.args.line.now.column false false
    (ap (λ (from : Option (List ℕ)). not (is_some from || c.args.line.now.check)) c.in-None.is
    ∙ ap not c.if-line.true)
    (ap (λ (from : Option (List ℕ)). is_some from && is_some c.args.line.now.column) c.in-None.is)
    c.check_plan.ensures.kind

pub returns-else-line-clause-if_known : goal.returns-else-line-clause-if_known
returns-else-line-clause-if_known g c = λ m.
    let line = c.args.line.now in
    let n = c.args.steps.now in
    subst (λ (from : Option (List ℕ)). IsPlanned (plan_of_work from line c.args.deck m) m c.session_plan.result n n)
    (sym c.in-None.is)
    (subst
    (λ (b : Bool). IsPlanned (if b then plan_of_check line c.args.deck else plan_of_session line c.args.deck m) m
    c.session_plan.result n n)
    (sym c.if-line.false)
    (subst (λ (t : LiveView). IsPlanned (plan_of_session line t.deck m) m c.session_plan.result n n) c.new-table.ensures
    (c.session_plan.ensures.if_known m n)))

pub returns-else-line-clause-kind : goal.returns-else-line-clause-kind
returns-else-line-clause-kind g c =
    plan_kind_of_words c.session_plan.result c.args.line.now.from c.args.line.now.check c.args.line.now.column true
    false
    (ap (λ (from : Option (List ℕ)). not (is_some from || c.args.line.now.check)) c.in-None.is
    ∙ ap not c.if-line.false)
    (ap (λ (from : Option (List ℕ)). is_some from && is_some c.args.line.now.column) c.in-None.is)
    c.session_plan.ensures.kind
