use Rattle.std.proofs.Common.{◌≡◌, ◌∙◌, Err, IfOk, ap, subst, sym}
use Rattle.reply.specs.Calls.{IsInquiryWithoutQueriesAnswered, inquiry_identity}
use Rattle.reply.specs.Conversions.{conversion_between}
use Rattle.reply.specs.Faults.{is_reply_fault_reportable}
use Rattle.reply.specs.Options.{reply_form}
use Rattle.reply.specs.Replies.{conversion_as_reply, conversion_result_as_reply, refusal_reply}
use Rattle.reply.specs.declared.failure.Failure.{Failure}
use Rattle.reply.specs.declared.form.Form.{Form}
use Rattle.reply.specs.declared.reply.Reply.{Reply}
use Rattle.reply.proofs.ReportableFaults.{IsReportableResult, conversion-between-has-memory}
use Rattle.reply.proofs.reply.comparison_reply.Goals as goal

pub refusal-requires-clause-reportable : goal.refusal-requires-clause-reportable
refusal-requires-clause-reportable c =
    ap is_reply_fault_reportable c.in-Err-Fault.fault-is
    ∙ subst IsReportableResult
    (subst (λ (x : Failure).
    IsInquiryWithoutQueriesAnswered inquiry_identity
    (conversion_between c.args.question.now.options.now.strict c.args.x c.args.y.now) (Err x))
    c.in-Err-Fault.field-0-is c.in-Err-Fault.ensures)
    (conversion-between-has-memory c.args.question.now.options.now.strict c.args.x c.args.y.now)

pub returns-in-Ok : goal.returns-in-Ok
returns-in-Ok c =
    subst (λ (w : Reply). IfOk c.reply_to_conversion.result (λ reply. reply ≡ w))
    (ap (λ (f : Form). conversion_as_reply f c.args.question.now.from.now c.args.question.now.to.now c.in-Ok.conversion)
    c.of-form.ensures.is
    ∙ ap (conversion_result_as_reply (reply_form c.args.question.now.options.now) c.args.question.now.from.now
    c.args.question.now.to.now) (sym c.in-Ok.ensures))
    c.reply_to_conversion.ensures

pub returns-in-Err-Fault : goal.returns-in-Err-Fault
returns-in-Err-Fault c =
    subst (λ (w : Reply). IfOk c.refusal.result (λ reply. reply ≡ w))
    (ap (refusal_reply c.of-form.result) c.in-Err-Fault.fault-is
    ∙ ap (λ (f : Form). refusal_reply f c.in-Err-Fault.fault) c.of-form.ensures.is
    ∙ ap (conversion_result_as_reply (reply_form c.args.question.now.options.now) c.args.question.now.from.now
    c.args.question.now.to.now)
    (sym (subst (λ (x : Failure).
    IsInquiryWithoutQueriesAnswered inquiry_identity
    (conversion_between c.args.question.now.options.now.strict c.args.x c.args.y.now)
    (Err x))
    c.in-Err-Fault.field-0-is c.in-Err-Fault.ensures)))
    c.refusal.ensures
