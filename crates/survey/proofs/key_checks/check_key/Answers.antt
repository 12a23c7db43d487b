use Rattle.std.proofs.Common.{◌∙◌, Err, ap, subst, sym}
use Rattle.std.proofs.lemmas.Result.{err_from_is_err_and}
use Rattle.deck.specs.Tables.{table_of_deck}
use Rattle.live_table.proofs.NameQueries.{live_events_cut_at_start}
use Rattle.reply.specs.Calls.{IsInquiryAnswered, inquiry_identity, inquiry_result}
use Rattle.survey.specs.Checks.{key_finding}
use Rattle.survey.proofs.key_checks.check_key.Goals as goal

pub returns-in_err-trees-clause-inquired : goal.returns-in_err-trees-clause-inquired
returns-in_err-trees-clause-inquired g c =
    let p = err_from_is_err_and c.from_residual.result c.from_residual.ensures.1 in
    subst (λ r. IsInquiryAnswered inquiry_identity (key_finding (table_of_deck c.args.table.now.deck) c.args.key.now)
    (inquiry_result r)
    c.args.table.now c.args.table.now c.args.steps.now c.args.steps.now) (sym (p.1 ∙ ap Err p.2))
    (live_events_cut_at_start (key_finding (table_of_deck c.args.table.now.deck) c.args.key.now).events c.args.table.now
    c.args.steps.now
    c.deck.ensures.right)
