use Rattle.std.proofs.Common.{Err, ap, subst, sym, ◌∙◌}
use Rattle.std.proofs.lemmas.Result.{err_from_is_err_and}
use Rattle.deck.specs.Decks.{DeckContents}
use Rattle.deck.specs.Tables.{table_of_deck}
use Rattle.reply.specs.Calls.{IsInquiryAnswered, inquiry_identity}
use Rattle.reply.specs.Conversions.{conversion}
use Rattle.reply.specs.Targets.{conversion_target}
use Rattle.reply.proofs.ConversionCalls.{convert-done, convert-stopped, convert-unvalued}
use Rattle.reply.proofs.question.Question.convert.Goals as goal

pub returns-in_err-x-clause-inquired : goal.returns-in_err-x-clause-inquired
returns-in_err-x-clause-inquired g c =
    let p = err_from_is_err_and c.from_residual.result c.from_residual.ensures.1 in
    subst (λ r. IsInquiryAnswered inquiry_identity
    (conversion (table_of_deck c.args.table.now.deck) c.args.self.now.options.now c.args.self.now.from.now
    c.args.self.now.to.now) r
    c.args.table.now c.evaluate_text.new.table c.args.steps.now c.evaluate_text.new.steps) (sym (p.1 ∙ ap Err p.2))
    (convert-unvalued c.args.self.now.options.now c.args.self.now.from.now c.args.self.now.to.now c.args.table.now
    c.evaluate_text.new.table
    c.args.steps.now c.evaluate_text.new.steps c.in_err-x.field-0.0 c.in_err-x.ensures.inquired)

pub returns-in_err-target-clause-inquired : goal.returns-in_err-target-clause-inquired
returns-in_err-target-clause-inquired g c =
    let p = err_from_is_err_and c.from_residual-in_err-target.result c.from_residual-in_err-target.ensures.1 in
    subst (λ r. IsInquiryAnswered inquiry_identity
    (conversion (table_of_deck c.args.table.now.deck) c.args.self.now.options.now c.args.self.now.from.now
    c.args.self.now.to.now) r
    c.args.table.now c.evaluate_text.new.table c.args.steps.now c.evaluate_text.new.steps) (sym (p.1 ∙ ap Err p.2))
    (convert-stopped c.args.self.now.options.now c.args.self.now.from.now c.args.self.now.to.now c.args.table.now
    c.evaluate_text.new.table
    c.args.steps.now c.evaluate_text.new.steps c.in_ok-x.x c.evaluate_text.ensures.deck c.in_ok-x.ensures.inquired)

pub convert_to_target-requires : goal.convert_to_target-requires
convert_to_target-requires g c =
    c.in_ok-target.ensures ∙ ap (λ (d : DeckContents). conversion_target (table_of_deck d) c.args.self.now.to.now)
    c.deck.ensures.deck

pub returns-clause-inquired : goal.returns-clause-inquired
returns-clause-inquired g c =
    convert-done c.args.self.now.options.now c.args.self.now.from.now c.args.self.now.to.now c.args.table.now
    c.evaluate_text.new.table
    c.args.steps.now c.evaluate_text.new.steps c.in_ok-x.x c.evaluate_text.ensures.deck c.in_ok-x.ensures.inquired
    c.deck.result.now c.in_ok-target.target c.convert_to_target.result c.convert_to_target.new.table
    c.convert_to_target.new.steps
    c.deck.ensures.deck c.in_ok-target.ensures c.convert_to_target.ensures.inquired
