use Rattle.std.proofs.Common.{Err, IfOk, ap, subst, ◌∙◌, ◌≡◌}
use Rattle.deck.specs.Tables.{table_of_deck}
use Rattle.reply.specs.declared.failure.Failure.{Failure}
use Rattle.reply.specs.declared.reply.Reply.{Reply}
use Rattle.reply.specs.Calls.{IsInquiryAnswered, inquiry_identity}
use Rattle.reply.specs.Inquiries.{value_of_text}
use Rattle.reply.specs.Faults.{is_reply_fault_reportable}
use Rattle.reply.specs.Replies.{refusal_reply}
use Rattle.reply.proofs.ReplyResults.{definition-granted, definition-refused, value-cut, value-fault-reportable}
use Rattle.reply.proofs.ReplyResults.{value-made}
use Rattle.reply.proofs.reply.definition_reply.Goals as goal

pub refusal-requires-clause-reportable : goal.refusal-requires-clause-reportable
refusal-requires-clause-reportable g c =
    ap is_reply_fault_reportable c.in-Err-Fault.fault-is
    ∙ value-fault-reportable c.args.options.now c.args.from.now c.trim-from.result.now c.trim-from.ensures
    c.args.table.now
    c.evaluate_text.new.table
    c.args.steps.now c.evaluate_text.new.steps c.parse_memory_law.ensures c.in-Err-Fault.fault
    (subst (λ (x : Failure). IsInquiryAnswered inquiry_identity
    (value_of_text (table_of_deck c.args.table.now.deck) c.trim-from.result.now) (Err x)
    c.args.table.now c.evaluate_text.new.table c.args.steps.now c.evaluate_text.new.steps) c.in-Err-Fault.field-0-is
    c.in-Err-Fault.ensures.inquired)

pub returns-in-Ok-clause-reply : goal.returns-in-Ok-clause-reply
returns-in-Ok-clause-reply g c =
    subst (λ (w : Reply). IfOk c.reply_to_value.result (λ reply. reply ≡ w))
    (definition-granted c.args.options.now c.args.from.now c.trim-from.result.now c.trim-from.ensures c.args.table.now
    c.evaluate_text.new.table
    c.args.steps.now c.evaluate_text.new.steps c.of-form.result c.of-form.ensures.is c.deck.result.now
    c.deck.ensures.deck
    c.evaluate_text.ensures.deck c.in-Ok.x c.in-Ok.ensures.inquired)
    c.reply_to_value.ensures

pub returns-in-Ok-clause-queries : goal.returns-in-Ok-clause-queries
returns-in-Ok-clause-queries g c =
    value-made c.args.options.now c.args.from.now c.trim-from.result.now c.trim-from.ensures c.args.table.now
    c.evaluate_text.new.table
    c.args.steps.now c.evaluate_text.new.steps c.reply_to_value.result c.evaluate_text.ensures.deck
    (c.in-Ok.ensures.inquired).1

pub returns-in-Err-Fault-clause-reply : goal.returns-in-Err-Fault-clause-reply
returns-in-Err-Fault-clause-reply g c =
    subst (λ (w : Reply). IfOk c.refusal.result (λ reply. reply ≡ w))
    (ap (refusal_reply c.of-form.result) c.in-Err-Fault.fault-is
    ∙ definition-refused c.args.options.now c.args.from.now c.trim-from.result.now c.trim-from.ensures c.args.table.now
    c.evaluate_text.new.table
    c.args.steps.now c.evaluate_text.new.steps c.of-form.result c.of-form.ensures.is c.in-Err-Fault.fault
    (subst (λ (x : Failure). IsInquiryAnswered inquiry_identity
    (value_of_text (table_of_deck c.args.table.now.deck) c.trim-from.result.now) (Err x)
    c.args.table.now c.evaluate_text.new.table c.args.steps.now c.evaluate_text.new.steps) c.in-Err-Fault.field-0-is
    c.in-Err-Fault.ensures.inquired))
    c.refusal.ensures

pub returns-in-Err-Fault-clause-queries : goal.returns-in-Err-Fault-clause-queries
returns-in-Err-Fault-clause-queries g c =
    value-made c.args.options.now c.args.from.now c.trim-from.result.now c.trim-from.ensures c.args.table.now
    c.evaluate_text.new.table
    c.args.steps.now c.evaluate_text.new.steps c.refusal.result c.evaluate_text.ensures.deck
    (subst (λ (x : Failure). IsInquiryAnswered inquiry_identity
    (value_of_text (table_of_deck c.args.table.now.deck) c.trim-from.result.now) (Err x)
    c.args.table.now c.evaluate_text.new.table c.args.steps.now c.evaluate_text.new.steps) c.in-Err-Fault.field-0-is
    c.in-Err-Fault.ensures.inquired).1

pub returns-in-Err-OutOfMemory-clause-queries : goal.returns-in-Err-OutOfMemory-clause-queries
returns-in-Err-OutOfMemory-clause-queries g c =
    value-cut c.args.options.now c.args.from.now c.trim-from.result.now c.trim-from.ensures c.args.table.now
    c.evaluate_text.new.table
    c.args.steps.now c.evaluate_text.new.steps
    (subst (λ (x : Failure). IsInquiryAnswered inquiry_identity
    (value_of_text (table_of_deck c.args.table.now.deck) c.trim-from.result.now) (Err x)
    c.args.table.now c.evaluate_text.new.table c.args.steps.now c.evaluate_text.new.steps)
    c.in-Err-OutOfMemory.field-0-is
    c.in-Err-OutOfMemory.ensures.inquired)
