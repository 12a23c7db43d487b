use Rattle.std.proofs.Common.{◌∙◌, Err, Ok, ap, subst, sym}
use Rattle.std.proofs.lemmas.Result.{err_from_is_err_and}
use Rattle.deck.specs.Tables.{table_of_deck}
use Rattle.def_entry.specs.declared.key.Kind.TheVariants as kinds
use Rattle.def_entry.specs.Keys.{key}
use Rattle.live_table.specs.Answers.{live_inverse_answer}
use Rattle.live_table.specs.States.{AsksKey}
use Rattle.reply.specs.declared.conversion.Conversion.TheVariants.{Inverse}
use Rattle.reply.specs.Calls.{IsInquiryAnswered, inquiry_failure, inquiry_identity}
use Rattle.reply.specs.Conversions.{inverse_conversion}
use Rattle.reply.specs.Inquiries.{inquiry_of_single_query, inquiry_without_queries}
use Rattle.reply.proofs.InquirySequence.{query_inquired, result-read-after-inquiry, then-failed}
use Rattle.reply.proofs.conversion.apply_inverse.Goals as goal
use Rattle.std.specs.Prelude.{refl}

pub returns-in_err-y-clause-inquired : goal.returns-in_err-y-clause-inquired
returns-in_err-y-clause-inquired g c =
    let p = err_from_is_err_and c.from_residual.result c.from_residual.ensures.1 in
    let event = AsksKey (key kinds.Func c.args.name.now) in
    let said = live_inverse_answer (table_of_deck c.args.table.now.deck) c.args.name.now c.args.x in
    subst (λ r. IsInquiryAnswered inquiry_identity
    (inverse_conversion (table_of_deck c.args.table.now.deck) c.args.name.now c.args.x) r
    c.args.table.now c.unapply.new.self c.args.steps.now c.unapply.new.steps) (sym (p.1 ∙ ap Err p.2))
    (then-failed inquiry_identity (inquiry_of_single_query event said) (λ y. inquiry_without_queries (Ok (Inverse y)))
    inquiry_identity
    (inquiry_failure c.in_err-y.field-0.0)
    c.args.table.now c.unapply.new.self c.args.steps.now c.unapply.new.steps
    (query_inquired event said c.args.table.now c.unapply.new.self c.args.steps.now c.unapply.new.steps
    (Err c.in_err-y.field-0.0) c.in_err-y.ensures.answer c.in_err-y.ensures.after))

pub returns-clause-inquired : goal.returns-clause-inquired
returns-clause-inquired g c =
    let event = AsksKey (key kinds.Func c.args.name.now) in
    let said = live_inverse_answer (table_of_deck c.args.table.now.deck) c.args.name.now c.args.x in
    result-read-after-inquiry inquiry_identity (inquiry_of_single_query event said) inquiry_identity
    (λ y. Ok (Inverse y)) c.in_ok-y.y (Ok (Inverse c.in_ok-y.y))
    c.args.table.now c.unapply.new.self c.args.steps.now c.unapply.new.steps c.unapply.ensures.deck
    (query_inquired event said c.args.table.now c.unapply.new.self c.args.steps.now c.unapply.new.steps (Ok c.in_ok-y.y)
    c.in_ok-y.ensures.answer c.in_ok-y.ensures.after) refl
