use Rattle.std.proofs.Common.{Err, IfOk, Ok, ap, subst, ◌∙◌, ◌≡◌}
use Rattle.deck.specs.Tables.{table_of_deck}
use Rattle.reply.specs.declared.failure.Failure.{Failure}
use Rattle.reply.specs.declared.fault.ReplyFault.{ReplyFault}
use Rattle.reply.specs.declared.reply.FromValue.{FromValue}
use Rattle.reply.specs.declared.reply.FromValue.TheVariants.{Bad, Good}
use Rattle.reply.specs.Calls.{IsInquiryAnswered, inquiry_identity}
use Rattle.reply.specs.Faults.{fault_text, is_reply_fault_reportable}
use Rattle.reply.specs.Inquiries.{value_of_text}
use Rattle.reply.specs.Options.{reply_style}
use Rattle.reply.proofs.ReplyResults.{value-bad, value-cut, value-fault-reportable, value-good, value-made}
use Rattle.reply.proofs.reply.from_value.Goals as goal

pub bad-requires-clause-reportable : goal.bad-requires-clause-reportable
bad-requires-clause-reportable g c =
    ap is_reply_fault_reportable c.in-Err-Fault.fault-is
    ∙ value-fault-reportable c.args.options.now c.args.from.now c.trim-from.result.now c.trim-from.ensures
    c.args.table.now
    c.evaluate_text.new.table
    c.args.steps.now c.evaluate_text.new.steps c.parse_memory_law.ensures c.in-Err-Fault.fault
    (subst (λ (x : Failure). IsInquiryAnswered inquiry_identity
    (value_of_text (table_of_deck c.args.table.now.deck) c.trim-from.result.now) (Err x)
    c.args.table.now c.evaluate_text.new.table c.args.steps.now c.evaluate_text.new.steps) c.in-Err-Fault.field-0-is
    c.in-Err-Fault.ensures.inquired)

pub returns-in-Ok-clause-value : goal.returns-in-Ok-clause-value
returns-in-Ok-clause-value g c = value-good c.args.options.now c.args.from.now c.trim-from.result.now
    c.trim-from.ensures c.args.table.now c.evaluate_text.new.table
    c.args.steps.now c.evaluate_text.new.steps c.in-Ok.x c.in-Ok.ensures.inquired

pub returns-in-Ok-clause-queries : goal.returns-in-Ok-clause-queries
returns-in-Ok-clause-queries g c =
    value-made c.args.options.now c.args.from.now c.trim-from.result.now c.trim-from.ensures c.args.table.now
    c.evaluate_text.new.table
    c.args.steps.now c.evaluate_text.new.steps (Ok (Good c.in-Ok.x)) c.evaluate_text.ensures.deck
    (c.in-Ok.ensures.inquired).1

pub returns-in-Err-Fault-clause-value : goal.returns-in-Err-Fault-clause-value
returns-in-Err-Fault-clause-value g c =
    subst (λ (w : FromValue). IfOk c.bad.result (λ value. value ≡ w))
    (ap (λ (f : ReplyFault). Bad (fault_text (reply_style c.args.options.now) f)) c.in-Err-Fault.fault-is
    ∙ value-bad c.args.options.now c.args.from.now c.trim-from.result.now c.trim-from.ensures c.args.table.now
    c.evaluate_text.new.table
    c.args.steps.now c.evaluate_text.new.steps c.in-Err-Fault.fault
    (subst (λ (x : Failure). IsInquiryAnswered inquiry_identity
    (value_of_text (table_of_deck c.args.table.now.deck) c.trim-from.result.now) (Err x)
    c.args.table.now c.evaluate_text.new.table c.args.steps.now c.evaluate_text.new.steps) c.in-Err-Fault.field-0-is
    c.in-Err-Fault.ensures.inquired))
    c.bad.ensures

pub returns-in-Err-Fault-clause-queries : goal.returns-in-Err-Fault-clause-queries
returns-in-Err-Fault-clause-queries g c =
    value-made c.args.options.now c.args.from.now c.trim-from.result.now c.trim-from.ensures c.args.table.now
    c.evaluate_text.new.table
    c.args.steps.now c.evaluate_text.new.steps c.bad.result c.evaluate_text.ensures.deck
    (subst (λ (x : Failure). IsInquiryAnswered inquiry_identity
    (value_of_text (table_of_deck c.args.table.now.deck) c.trim-from.result.now) (Err x)
    c.args.table.now c.evaluate_text.new.table c.args.steps.now c.evaluate_text.new.steps) c.in-Err-Fault.field-0-is
    c.in-Err-Fault.ensures.inquired).1

pub returns-in-Err-OutOfMemory-clause-queries : goal.returns-in-Err-OutOfMemory-clause-queries
returns-in-Err-OutOfMemory-clause-queries g c =
    value-cut c.args.options.now c.args.from.now c.trim-from.result.now c.trim-from.ensures c.args.table.now
    c.evaluate_text.new.table
    c.args.steps.now c.evaluate_text.new.steps
    (subst (λ (x : Failure). IsInquiryAnswered inquiry_identity
    (value_of_text (table_of_deck c.args.table.now.deck) c.trim-from.result.now) (Err x)
    c.args.table.now c.evaluate_text.new.table c.args.steps.now c.evaluate_text.new.steps)
    c.in-Err-OutOfMemory.field-0-is
    c.in-Err-OutOfMemory.ensures.inquired)
