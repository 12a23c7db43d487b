use Rattle.std.proofs.Common.{Err, sym, subst, ap, ◌∙◌}
use Rattle.std.proofs.lemmas.Result.{err_from_is_err_and}
use Rattle.deck.specs.Tables.{table_of_deck}
use Rattle.reply.specs.Calls.{IsInquiryAnswered, inquiry_identity}
use Rattle.reply.specs.Conversions.{conversion_between, conversion_to_unit}
use Rattle.reply.specs.Inquiries.{inquiry_without_queries, value_of_text}
use Rattle.reply.proofs.InquirySequence.{result-read-after-inquiry, then-failed}
use Rattle.reply.proofs.question.Question.convert_to_unit.Goals as goal

pub returns-in_err-y-clause-inquired : goal.returns-in_err-y-clause-inquired
returns-in_err-y-clause-inquired g c =
    let p = err_from_is_err_and c.from_residual.result c.from_residual.ensures.1 in
    subst (λ r. IsInquiryAnswered inquiry_identity
    (conversion_to_unit (table_of_deck c.args.table.now.deck) c.args.self.now.options.now c.args.self.now.to.now
    c.args.x) r
    c.args.table.now c.evaluate_text.new.table c.args.steps.now c.evaluate_text.new.steps) (sym (p.1 ∙ ap Err p.2))
    (then-failed inquiry_identity (value_of_text (table_of_deck c.args.table.now.deck) c.args.self.now.to.now)
    (λ y. inquiry_without_queries (conversion_between c.args.self.now.options.now.strict c.args.x y)) inquiry_identity
    c.in_err-y.field-0.0
    c.args.table.now c.evaluate_text.new.table c.args.steps.now c.evaluate_text.new.steps c.in_err-y.ensures.inquired)

pub returns-clause-inquired : goal.returns-clause-inquired
returns-clause-inquired g c =
    result-read-after-inquiry inquiry_identity
    (value_of_text (table_of_deck c.args.table.now.deck) c.args.self.now.to.now)
    inquiry_identity
    (λ y. conversion_between c.args.self.now.options.now.strict c.args.x y) c.in_ok-y.y c.compare_quantities.result
    c.args.table.now c.evaluate_text.new.table c.args.steps.now c.evaluate_text.new.steps
    c.evaluate_text.ensures.deck c.in_ok-y.ensures.inquired c.compare_quantities.ensures
