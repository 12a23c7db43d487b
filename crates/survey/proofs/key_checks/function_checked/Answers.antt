use Rattle.std.proofs.Common.{◌∙◌, Err, ap, subst, sym}
use Rattle.std.proofs.lemmas.Result.{err_from_is_err_and}
use Rattle.deck.specs.Tables.{table_of_deck}
use Rattle.reply.specs.Calls.{IsInquiryAnswered, inquiry_failure, inquiry_identity, inquiry_result, inquiry_syntaxes}
use Rattle.reply.specs.Inquiries.{◌>>=◌, values_of_trees}
use Rattle.reply.proofs.InquirySequence.{then-failed}
use Rattle.survey.specs.Checks.{names_finding, sound_finding}
use Rattle.survey.proofs.key_checks.function_checked.Goals as goal

pub returns-in_err-ask_function-clause-inquired : goal.returns-in_err-ask_function-clause-inquired
returns-in_err-ask_function-clause-inquired g c =
    let p = err_from_is_err_and c.from_residual.result c.from_residual.ensures.1 in
    subst (λ r. IsInquiryAnswered inquiry_identity (names_finding (table_of_deck c.args.table.now.deck) c.args.key.now
    >>= (λ _. sound_finding
    (values_of_trees (table_of_deck c.args.table.now.deck) (inquiry_syntaxes c.args.trees.now))))
    (inquiry_result r)
    c.args.table.now c.ask_function.new.table c.args.steps.now c.ask_function.new.steps) (sym (p.1 ∙ ap Err p.2))
    (then-failed inquiry_identity (names_finding (table_of_deck c.args.table.now.deck) c.args.key.now)
    (λ _. sound_finding (values_of_trees (table_of_deck c.args.table.now.deck) (inquiry_syntaxes c.args.trees.now)))
    inquiry_identity
    (inquiry_failure c.in_err-ask_function.field-0.0) c.args.table.now c.ask_function.new.table c.args.steps.now
    c.ask_function.new.steps c.in_err-ask_function.ensures.inquired)
