use Rattle.std.proofs.Common.{◌∙◌, ◌+◌, ◌++◌, ◌∷◌, [], Err, List, Ok, ap, arith, drop, subst, sym}
use Rattle.std.proofs.lemmas.List.{drop_more}
use Rattle.std.proofs.lemmas.Result.{err_from_is_err_and}
use Rattle.std.specs.Prelude.{Vec}
use Rattle.std.specs.declared.alloc.Global.{Global}
use Rattle.deck.specs.Decks.{DeckContents}
use Rattle.deck.specs.Tables.{table_of_deck}
use Rattle.expr_tree.specs.declared.tree.Tree.{Tree}
use Rattle.expr_tree.specs.Trees.{syntax}
use Rattle.quantity.specs.Amount.{Amount}
use Rattle.reply.specs.Calls.{IsInquiryAnswered, inquiry_failure, inquiry_identity, inquiry_result, inquiry_syntaxes}
use Rattle.reply.specs.Inquiries.{tree_value, values_of_trees}
use Rattle.reply.proofs.TreeValues.{IsUnderway, inquiry-underway-at-start, underway-failed, underway-next}
use Rattle.reply.proofs.TreeValues.{underway-stopped}
use Rattle.reply.proofs.text_evaluation.evaluate_texts.Goals as goal

pub loop-tree-init : goal.loop-tree-init
loop-tree-init g c =
    subst (λ (xs : List Amount). IsUnderway (table_of_deck c.args.table.now.deck) (inquiry_syntaxes c.args.trees.now)
    (inquiry_syntaxes c.args.trees.now) xs c.args.table.now c.args.table.now c.args.steps.now c.args.steps.now)
    (sym c.new-values.ensures.items)
    (inquiry-underway-at-start (table_of_deck c.args.table.now.deck) (inquiry_syntaxes c.args.trees.now)
    c.args.table.now c.args.steps.now
    c.outcomes_are_right.ensures)

pub returns-in_err-value-clause-inquired : goal.returns-in_err-value-clause-inquired
returns-in_err-value-clause-inquired g c =
    let p = err_from_is_err_and c.from_residual.result c.from_residual.ensures.1 in
    let next = drop_more c.args.trees.now c.loop-tree.tree-index c.tree-item.result (omega arith)
    ∙ ap (λ (tree : Tree). tree ∷ drop (c.loop-tree.tree-index + 1) c.args.trees.now) (sym c.tree-item.is) in
    subst (λ r. IsInquiryAnswered (λ (values : Vec Amount Global). values.items)
    (values_of_trees (table_of_deck c.args.table.now.deck) (inquiry_syntaxes c.args.trees.now)) (inquiry_result r)
    c.args.table.now c.evaluate_tree.new.table c.args.steps.now c.evaluate_tree.new.steps) (sym (p.1 ∙ ap Err p.2))
    (underway-failed (table_of_deck c.args.table.now.deck) (inquiry_syntaxes c.args.trees.now)
    (inquiry_syntaxes (drop (c.loop-tree.tree-index + 1) c.args.trees.now)) (syntax c.tree-item.result)
    c.loop-tree.values.items
    c.args.table.now c.loop-tree.table c.args.steps.now c.loop-tree.steps
    (subst (λ (rest : List Tree). IsUnderway (table_of_deck c.args.table.now.deck) (inquiry_syntaxes c.args.trees.now)
    (inquiry_syntaxes rest)
    c.loop-tree.values.items c.args.table.now c.loop-tree.table c.args.steps.now c.loop-tree.steps)
    next c.loop-tree.invariant)
    c.evaluate_tree.new.table c.evaluate_tree.new.steps c.evaluate_tree.ensures.deck
    (λ (values : Vec Amount Global). values.items)
    (inquiry_failure c.in_err-value.field-0.0)
    (subst (λ (d : DeckContents). IsInquiryAnswered inquiry_identity
    (tree_value (table_of_deck d) (syntax c.tree-item.result))
    (Err (inquiry_failure c.in_err-value.field-0.0)) c.loop-tree.table
    c.evaluate_tree.new.table c.loop-tree.steps c.evaluate_tree.new.steps) c.loop-tree.invariant.deck
    c.in_err-value.ensures.inquired))

pub returns-in_err-put_value-clause-inquired : goal.returns-in_err-put_value-clause-inquired
returns-in_err-put_value-clause-inquired g c =
    let p = err_from_is_err_and c.from_residual-in_err-put_value.result c.from_residual-in_err-put_value.ensures.1 in
    let next = drop_more c.args.trees.now c.loop-tree.tree-index c.tree-item.result (omega arith)
    ∙ ap (λ (tree : Tree). tree ∷ drop (c.loop-tree.tree-index + 1) c.args.trees.now) (sym c.tree-item.is) in
    subst (λ r. IsInquiryAnswered (λ (values : Vec Amount Global). values.items)
    (values_of_trees (table_of_deck c.args.table.now.deck) (inquiry_syntaxes c.args.trees.now)) (inquiry_result r)
    c.args.table.now c.evaluate_tree.new.table c.args.steps.now c.evaluate_tree.new.steps) (sym (p.1 ∙ ap Err p.2))
    (underway-stopped (λ (values : Vec Amount Global). values.items) (table_of_deck c.args.table.now.deck)
    (inquiry_syntaxes c.args.trees.now) c.args.table.now c.evaluate_tree.new.table c.args.steps.now
    c.evaluate_tree.new.steps
    (inquiry_syntaxes (drop (c.loop-tree.tree-index + 1) c.args.trees.now))
    (c.loop-tree.values.items ++ c.in_ok-value.value ∷ [])
    (underway-next (table_of_deck c.args.table.now.deck) (inquiry_syntaxes c.args.trees.now)
    (inquiry_syntaxes (drop (c.loop-tree.tree-index + 1) c.args.trees.now)) (syntax c.tree-item.result)
    c.loop-tree.values.items
    c.args.table.now c.loop-tree.table c.args.steps.now c.loop-tree.steps
    (subst (λ (rest : List Tree). IsUnderway (table_of_deck c.args.table.now.deck) (inquiry_syntaxes c.args.trees.now)
    (inquiry_syntaxes rest)
    c.loop-tree.values.items c.args.table.now c.loop-tree.table c.args.steps.now c.loop-tree.steps)
    next c.loop-tree.invariant)
    c.evaluate_tree.new.table c.evaluate_tree.new.steps c.evaluate_tree.ensures.deck c.in_ok-value.value
    (subst (λ (d : DeckContents). IsInquiryAnswered inquiry_identity
    (tree_value (table_of_deck d) (syntax c.tree-item.result))
    (Ok c.in_ok-value.value)
    c.loop-tree.table
    c.evaluate_tree.new.table c.loop-tree.steps c.evaluate_tree.new.steps) c.loop-tree.invariant.deck
    c.in_ok-value.ensures.inquired)))

pub loop-tree-preserved : goal.loop-tree-preserved
loop-tree-preserved g c =
    let next = drop_more c.args.trees.now c.loop-tree.tree-index c.tree-item.result (omega arith)
    ∙ ap (λ (tree : Tree). tree ∷ drop (c.loop-tree.tree-index + 1) c.args.trees.now) (sym c.tree-item.is) in
    subst (λ (xs : List Amount). IsUnderway (table_of_deck c.args.table.now.deck) (inquiry_syntaxes c.args.trees.now)
    (inquiry_syntaxes (drop (c.loop-tree.tree-index + 1) c.args.trees.now)) xs c.args.table.now
    c.evaluate_tree.new.table
    c.args.steps.now
    c.evaluate_tree.new.steps)
    (sym {A = List Amount} c.in_ok-put_value.ensures)
    (underway-next (table_of_deck c.args.table.now.deck) (inquiry_syntaxes c.args.trees.now)
    (inquiry_syntaxes (drop (c.loop-tree.tree-index + 1) c.args.trees.now)) (syntax c.tree-item.result)
    c.loop-tree.values.items
    c.args.table.now c.loop-tree.table c.args.steps.now c.loop-tree.steps
    (subst (λ (rest : List Tree). IsUnderway (table_of_deck c.args.table.now.deck) (inquiry_syntaxes c.args.trees.now)
    (inquiry_syntaxes rest)
    c.loop-tree.values.items c.args.table.now c.loop-tree.table c.args.steps.now c.loop-tree.steps)
    next c.loop-tree.invariant)
    c.evaluate_tree.new.table c.evaluate_tree.new.steps c.evaluate_tree.ensures.deck c.in_ok-value.value
    (subst (λ (d : DeckContents). IsInquiryAnswered inquiry_identity
    (tree_value (table_of_deck d) (syntax c.tree-item.result))
    (Ok c.in_ok-value.value)
    c.loop-tree.table
    c.evaluate_tree.new.table c.loop-tree.steps c.evaluate_tree.new.steps) c.loop-tree.invariant.deck
    c.in_ok-value.ensures.inquired))
