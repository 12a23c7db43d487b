use Rattle.std.proofs.Common.{◌∙◌, Err, ap, subst, sym}
use Rattle.std.specs.Prelude.{Vec}
use Rattle.std.specs.declared.alloc.Global.{Global}
use Rattle.std.proofs.lemmas.Result.{err_from_is_err_and}
use Rattle.deck.specs.Tables.{table_of_deck}
use Rattle.quantity.specs.Amount.{Amount}
use Rattle.live_table.specs.declared.fault.QueryFault.{QueryFault}
use Rattle.reply.specs.Calls.{IsInquiryAnswered, inquiry_failure, inquiry_identity, inquiry_result, inquiry_syntaxes}
use Rattle.reply.specs.Inquiries.{values_of_trees}
use Rattle.survey.specs.Checks.{checked_prefix_values, sound_finding}
use Rattle.survey.proofs.PrefixAnswers.{prefix-unreported}
use Rattle.survey.proofs.key_checks.prefix_checked.Goals as goal

pub returns-in_err-prefix_fault-in-Err-Name-clause-inquired :
    goal.returns-in_err-prefix_fault-in-Err-Name-clause-inquired
returns-in_err-prefix_fault-in-Err-Name-clause-inquired g c =
    let p = err_from_is_err_and c.from_residual.result c.from_residual.ensures.1 in
    subst (λ r. IsInquiryAnswered inquiry_identity
    (sound_finding (checked_prefix_values c.args.key.now
    (values_of_trees (table_of_deck c.args.table.now.deck) (inquiry_syntaxes c.args.trees.now))))
    (inquiry_result r)
    c.args.table.now c.evaluate_texts.new.table c.args.steps.now c.evaluate_texts.new.steps) (sym (p.1 ∙ ap Err p.2))
    (prefix-unreported (λ (values : Vec Amount Global). values.items) c.args.key.now
    (values_of_trees (table_of_deck c.args.table.now.deck) (inquiry_syntaxes c.args.trees.now))
    c.args.table.now c.evaluate_texts.new.table c.args.steps.now c.evaluate_texts.new.steps c.in-Err-Name.fault
    c.evaluate_texts.ensures.deck
    (subst (λ (fault : QueryFault). IsInquiryAnswered (λ (values : Vec Amount Global). values.items)
    (values_of_trees (table_of_deck c.args.table.now.deck) (inquiry_syntaxes c.args.trees.now))
    (Err (inquiry_failure fault))
    c.args.table.now c.evaluate_texts.new.table c.args.steps.now c.evaluate_texts.new.steps) c.in-Err-Name.field-0-is
    c.in-Err-Name.ensures.inquired))
