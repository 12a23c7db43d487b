use Rattle.std.proofs.Common.{Err, IfOk, ap, subst, ◌∙◌, ◌≡◌}
use Rattle.deck.specs.Tables.{table_of_deck}
use Rattle.reply.specs.declared.failure.Failure.{Failure}
use Rattle.reply.specs.declared.reply.Reply.{Reply}
use Rattle.reply.specs.Calls.{IsInquiryAnswered, inquiry_identity}
use Rattle.reply.specs.Conversions.{conversion}
use Rattle.reply.specs.Faults.{is_reply_fault_reportable}
use Rattle.reply.specs.Grants.{IsConversionReply}
use Rattle.reply.specs.Replies.{conversion_reply, refusal_reply}
use Rattle.reply.proofs.ReplyResults.{conversion-cut, conversion-fault-reportable, conversion-granted, conversion-made}
use Rattle.reply.proofs.ReplyResults.{conversion-refused, reply-holds}
use Rattle.reply.proofs.reply.convert_reply.Goals as goal

pub refusal-requires-clause-reportable : goal.refusal-requires-clause-reportable
refusal-requires-clause-reportable g c =
    ap is_reply_fault_reportable c.in-Err-Fault.fault-is
    ∙ conversion-fault-reportable c.args.options.now c.args.from.now c.args.to.now c.trim-from.result.now
    c.trim-to.result.now
    c.trim-from.ensures
    c.trim-to.ensures c.args.table.now c.convert.new.table c.args.steps.now c.convert.new.steps
    c.parse_memory_law.ensures
    c.in-Err-Fault.fault
    (subst (λ (x : Failure).
    IsInquiryAnswered inquiry_identity
    (conversion (table_of_deck c.args.table.now.deck) c.args.options.now c.trim-from.result.now
    c.trim-to.result.now) (Err x) c.args.table.now c.convert.new.table c.args.steps.now c.convert.new.steps)
    c.in-Err-Fault.field-0-is c.in-Err-Fault.ensures.inquired)

pub returns-in-Ok-clause-reply : goal.returns-in-Ok-clause-reply
returns-in-Ok-clause-reply g c =
    subst (λ (w : Reply). IfOk c.reply_to_conversion.result (λ reply. reply ≡ w))
    (conversion-granted c.args.options.now c.args.from.now c.args.to.now c.trim-from.result.now c.trim-to.result.now
    c.trim-from.ensures
    c.trim-to.ensures c.args.table.now c.convert.new.table c.args.steps.now c.convert.new.steps c.of-form.result
    c.of-form.ensures.is c.in-Ok.conversion c.in-Ok.ensures.inquired)
    c.reply_to_conversion.ensures

pub returns-in-Ok-clause-exact : goal.returns-in-Ok-clause-exact
returns-in-Ok-clause-exact g c =
    let t = table_of_deck c.args.table.now.deck in
    reply-holds (IsConversionReply t c.args.options.now c.args.from.now c.args.to.now) c.reply_to_conversion.result
    (conversion_reply t c.args.options.now c.args.from.now c.args.to.now)
    (c.grant_law.ensures c.args.table.now.deck c.args.options.now c.args.from.now c.args.to.now)
    (returns-in-Ok-clause-reply g c)

pub returns-in-Ok-clause-queries : goal.returns-in-Ok-clause-queries
returns-in-Ok-clause-queries g c =
    conversion-made c.args.options.now c.args.from.now c.args.to.now c.trim-from.result.now c.trim-to.result.now
    c.trim-from.ensures
    c.trim-to.ensures c.args.table.now c.convert.new.table c.args.steps.now c.convert.new.steps
    c.reply_to_conversion.result
    c.convert.ensures.deck (c.in-Ok.ensures.inquired).1

pub returns-in-Err-Fault-clause-reply : goal.returns-in-Err-Fault-clause-reply
returns-in-Err-Fault-clause-reply g c =
    subst (λ (w : Reply). IfOk c.refusal.result (λ reply. reply ≡ w))
    (ap (refusal_reply c.of-form.result) c.in-Err-Fault.fault-is
    ∙ conversion-refused c.args.options.now c.args.from.now c.args.to.now c.trim-from.result.now c.trim-to.result.now
    c.trim-from.ensures
    c.trim-to.ensures c.args.table.now c.convert.new.table c.args.steps.now c.convert.new.steps c.of-form.result
    c.of-form.ensures.is c.in-Err-Fault.fault
    (subst (λ (x : Failure).
    IsInquiryAnswered inquiry_identity
    (conversion (table_of_deck c.args.table.now.deck) c.args.options.now c.trim-from.result.now
    c.trim-to.result.now) (Err x) c.args.table.now c.convert.new.table c.args.steps.now c.convert.new.steps)
    c.in-Err-Fault.field-0-is c.in-Err-Fault.ensures.inquired))
    c.refusal.ensures

pub returns-in-Err-Fault-clause-exact : goal.returns-in-Err-Fault-clause-exact
returns-in-Err-Fault-clause-exact g c =
    let t = table_of_deck c.args.table.now.deck in
    reply-holds (IsConversionReply t c.args.options.now c.args.from.now c.args.to.now) c.refusal.result
    (conversion_reply t c.args.options.now c.args.from.now c.args.to.now)
    (c.grant_law.ensures c.args.table.now.deck c.args.options.now c.args.from.now c.args.to.now)
    (returns-in-Err-Fault-clause-reply g c)

pub returns-in-Err-Fault-clause-queries : goal.returns-in-Err-Fault-clause-queries
returns-in-Err-Fault-clause-queries g c =
    conversion-made c.args.options.now c.args.from.now c.args.to.now c.trim-from.result.now c.trim-to.result.now
    c.trim-from.ensures
    c.trim-to.ensures c.args.table.now c.convert.new.table c.args.steps.now c.convert.new.steps c.refusal.result
    c.convert.ensures.deck
    (subst (λ (x : Failure).
    IsInquiryAnswered inquiry_identity
    (conversion (table_of_deck c.args.table.now.deck) c.args.options.now c.trim-from.result.now
    c.trim-to.result.now) (Err x) c.args.table.now c.convert.new.table c.args.steps.now c.convert.new.steps)
    c.in-Err-Fault.field-0-is c.in-Err-Fault.ensures.inquired).1

pub returns-in-Err-OutOfMemory-clause-queries : goal.returns-in-Err-OutOfMemory-clause-queries
returns-in-Err-OutOfMemory-clause-queries g c =
    conversion-cut c.args.options.now c.args.from.now c.args.to.now c.trim-from.result.now c.trim-to.result.now
    c.trim-from.ensures
    c.trim-to.ensures c.args.table.now c.convert.new.table c.args.steps.now c.convert.new.steps
    (subst (λ (x : Failure).
    IsInquiryAnswered inquiry_identity
    (conversion (table_of_deck c.args.table.now.deck) c.args.options.now c.trim-from.result.now
    c.trim-to.result.now) (Err x) c.args.table.now c.convert.new.table c.args.steps.now c.convert.new.steps)
    c.in-Err-OutOfMemory.field-0-is c.in-Err-OutOfMemory.ensures.inquired)
