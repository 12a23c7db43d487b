use Rattle.std.proofs.Common.{◌∙◌, ap, not}
use Rattle.expr_tree.specs.Trees.{syntax}
use Rattle.column_convert.proofs.RecallQueries.{both_begun, both_known, from_begun, from_cut, from_stopped}
use Rattle.column_convert.proofs.RecallQueries.{some_recalled_cell_value_holds, recalled_cell_value_is_there, to_cut}
use Rattle.column_convert.proofs.plain.PlainTrees.ask_both.Goals as goal

pub returns-in_err-from_value-clause-asked : goal.returns-in_err-from_value-clause-asked
returns-in_err-from_value-clause-asked g c =
    from_cut c.args.question.now.from.now c.args.question.now.to.now c.args.n.now (syntax c.args.self.now.from_tree)
    (syntax c.args.self.now.to_tree) c.args.table.now c.requires c.ask.new.table c.args.steps.now c.ask.new.steps
    c.ask.ensures.deck _ c.from_residual.result c.from_residual.ensures.1 c.in_err-from_value.ensures.query

pub returns-in_default-clause-asked : goal.returns-in_default-clause-asked
returns-in_default-clause-asked g c =
    from_begun c.args.question.now.from.now c.args.question.now.to.now c.args.n.now (syntax c.args.self.now.from_tree)
    (syntax c.args.self.now.to_tree) c.args.table.now c.requires c.ask.new.table c.args.steps.now c.ask.new.steps
    c.ask.ensures.deck c.ask.ensures.few c.in_ok-from_value.ensures.query

pub returns-in_err-product-clause-asked : goal.returns-in_err-product-clause-asked
returns-in_err-product-clause-asked g c =
    from_stopped c.args.question.now.from.now c.args.question.now.to.now c.args.n.now (syntax c.args.self.now.from_tree)
    (syntax c.args.self.now.to_tree) c.args.table.now c.requires c.ask.new.table c.args.steps.now c.ask.new.steps
    c.ask.ensures.deck c.ask.ensures.few c.in_ok-from_value.ensures.query _
    c.from_residual-in_err-product.result c.from_residual-in_err-product.ensures.1

pub returns-then-is_none-clause-asked : goal.returns-then-is_none-clause-asked
returns-then-is_none-clause-asked g c =
    from_begun c.args.question.now.from.now c.args.question.now.to.now c.args.n.now (syntax c.args.self.now.from_tree)
    (syntax c.args.self.now.to_tree) c.args.table.now c.requires c.ask.new.table c.args.steps.now c.ask.new.steps
    c.ask.ensures.deck c.ask.ensures.few c.in_ok-from_value.ensures.query

pub returns-in_err-to_value-clause-asked : goal.returns-in_err-to_value-clause-asked
returns-in_err-to_value-clause-asked g c =
    let p = recalled_cell_value_is_there _ _ (c.is_none.ensures ∙ ap not c.if-is_none.false) c.in_ok-product.ensures in
    to_cut c.args.question.now.from.now c.args.question.now.to.now c.args.n.now (syntax c.args.self.now.from_tree)
    (syntax c.args.self.now.to_tree) c.args.table.now c.requires c.ask.new.table c.args.steps.now c.ask.new.steps
    c.ask.ensures.deck c.ask.ensures.few c.in_ok-from_value.ensures.query c.in-Some.from_value p.0
    (some_recalled_cell_value_holds _ _ c.in-Some.from_value c.in-Some.is c.in_ok-from_value.ensures.value) p.1
    c.ask-2.new.table
    c.ask-2.new.steps
    c.ask-2.ensures.deck _ c.from_residual-in_err-to_value.result
    c.from_residual-in_err-to_value.ensures.1 c.in_err-to_value.ensures.query

pub returns-in_default-2-clause-asked : goal.returns-in_default-2-clause-asked
returns-in_default-2-clause-asked g c =
    let p = recalled_cell_value_is_there _ _ (c.is_none.ensures ∙ ap not c.if-is_none.false) c.in_ok-product.ensures in
    both_begun c.args.question.now.from.now c.args.question.now.to.now c.args.n.now (syntax c.args.self.now.from_tree)
    (syntax c.args.self.now.to_tree) c.args.table.now c.requires c.ask.new.table c.args.steps.now c.ask.new.steps
    c.ask.ensures.deck c.ask.ensures.few c.in_ok-from_value.ensures.query c.in-Some.from_value p.0
    (some_recalled_cell_value_holds _ _ c.in-Some.from_value c.in-Some.is c.in_ok-from_value.ensures.value) p.1
    c.ask-2.new.table
    c.ask-2.new.steps
    c.ask-2.ensures.deck c.ask-2.ensures.few c.in_ok-to_value.ensures.query

pub returns-clause-known : goal.returns-clause-known
returns-clause-known g c =
    let p = recalled_cell_value_is_there _ _ (c.is_none.ensures ∙ ap not c.if-is_none.false) c.in_ok-product.ensures in
    both_known c.args.question.now.from.now c.args.question.now.to.now c.args.n.now (syntax c.args.self.now.from_tree)
    (syntax c.args.self.now.to_tree) c.args.table.now c.requires c.ask.new.table c.args.steps.now c.ask.new.steps
    c.ask.ensures.deck c.ask.ensures.few c.in_ok-from_value.ensures.query c.in-Some.from_value p.0
    (some_recalled_cell_value_holds _ _ c.in-Some.from_value c.in-Some.is c.in_ok-from_value.ensures.value) p.1
    c.ask-2.new.table
    c.ask-2.new.steps
    c.ask-2.ensures.deck c.ask-2.ensures.few c.in_ok-to_value.ensures.query
    c.in-Some-2.to_value (some_recalled_cell_value_holds _ _ c.in-Some-2.to_value c.in-Some-2.is
    c.in_ok-to_value.ensures.value)

pub returns-clause-asked : goal.returns-clause-asked
returns-clause-asked g c =
    let p = recalled_cell_value_is_there _ _ (c.is_none.ensures ∙ ap not c.if-is_none.false) c.in_ok-product.ensures in
    both_begun c.args.question.now.from.now c.args.question.now.to.now c.args.n.now (syntax c.args.self.now.from_tree)
    (syntax c.args.self.now.to_tree) c.args.table.now c.requires c.ask.new.table c.args.steps.now c.ask.new.steps
    c.ask.ensures.deck c.ask.ensures.few c.in_ok-from_value.ensures.query c.in-Some.from_value p.0
    (some_recalled_cell_value_holds _ _ c.in-Some.from_value c.in-Some.is c.in_ok-from_value.ensures.value) p.1
    c.ask-2.new.table
    c.ask-2.new.steps
    c.ask-2.ensures.deck c.ask-2.ensures.few c.in_ok-to_value.ensures.query
