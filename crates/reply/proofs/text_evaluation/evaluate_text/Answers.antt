use Rattle.std.proofs.Common.{Err, Ok, sym, subst, refl, ap, ◌∙◌}
use Rattle.std.proofs.lemmas.Result.{err_from_is_err_and}
use Rattle.deck.specs.Tables.{table_of_deck}
use Rattle.expr_tree.specs.Trees.{syntax}
use Rattle.live_table.proofs.QuerySequence.{no_live_events_keep_view}
use Rattle.reply.specs.Calls.{IsInquiryAnswered, inquiry_failure, inquiry_identity}
use Rattle.reply.specs.Inquiries.{inquiry_without_queries, value_of_text, tree_value}
use Rattle.reply.specs.Trees.{inquiry_tree}
use Rattle.reply.proofs.InquirySequence.{read-given, then-answered, then-failed}
use Rattle.reply.proofs.text_evaluation.evaluate_text.Goals as goal

pub returns-in_err-tree-clause-inquired : goal.returns-in_err-tree-clause-inquired
returns-in_err-tree-clause-inquired g c =
    let p = err_from_is_err_and c.from_residual.result c.from_residual.ensures.1 in
    subst (λ r. IsInquiryAnswered inquiry_identity (value_of_text (table_of_deck c.args.table.now.deck) c.args.text.now)
    r
    c.args.table.now c.args.table.now c.args.steps.now c.args.steps.now) (sym (p.1 ∙ ap Err p.2))
    (then-failed inquiry_identity (inquiry_without_queries (inquiry_tree c.args.text.now))
    (tree_value (table_of_deck c.args.table.now.deck)) syntax
    c.in_err-tree.field-0.0 c.args.table.now c.args.table.now c.args.steps.now c.args.steps.now
    (read-given syntax (inquiry_tree c.args.text.now) c.args.table.now c.args.steps.now (Err c.in_err-tree.field-0.0)
    c.outcomes_are_right.ensures c.in_err-tree.ensures))

pub returns-in_err-value-clause-inquired : goal.returns-in_err-value-clause-inquired
returns-in_err-value-clause-inquired g c =
    let p = err_from_is_err_and c.from_residual-in_err-value.result c.from_residual-in_err-value.ensures.1 in
    subst (λ r. IsInquiryAnswered inquiry_identity (value_of_text (table_of_deck c.args.table.now.deck) c.args.text.now)
    r
    c.args.table.now c.evaluate_tree.new.table c.args.steps.now c.evaluate_tree.new.steps) (sym (p.1 ∙ ap Err p.2))
    (then-answered inquiry_identity (inquiry_without_queries (inquiry_tree c.args.text.now))
    (tree_value (table_of_deck c.args.table.now.deck))
    (syntax c.in_ok-tree.tree) (Err (inquiry_failure c.in_err-value.field-0.0))
    c.args.table.now c.args.table.now c.evaluate_tree.new.table c.args.steps.now c.args.steps.now
    c.evaluate_tree.new.steps
    refl c.in_ok-tree.ensures (no_live_events_keep_view c.args.table.now c.args.steps.now c.outcomes_are_right.ensures)
    c.in_err-value.ensures.inquired)

pub returns-clause-inquired : goal.returns-clause-inquired
returns-clause-inquired g c =
    then-answered inquiry_identity (inquiry_without_queries (inquiry_tree c.args.text.now))
    (tree_value (table_of_deck c.args.table.now.deck))
    (syntax c.in_ok-tree.tree) (Ok c.in_ok-value.value)
    c.args.table.now c.args.table.now c.evaluate_tree.new.table c.args.steps.now c.args.steps.now
    c.evaluate_tree.new.steps
    refl c.in_ok-tree.ensures (no_live_events_keep_view c.args.table.now c.args.steps.now c.outcomes_are_right.ensures)
    c.in_ok-value.ensures.inquired
