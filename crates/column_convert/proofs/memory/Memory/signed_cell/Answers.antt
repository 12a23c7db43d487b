use Rattle.column_convert.proofs.RecallQueries.{cell_cut, cell_made, cell_stopped, queries_known}
use Rattle.column_convert.proofs.RecallQueries.{some_recalled_cell_value_holds, queries_made}
use Rattle.column_convert.proofs.memory.Memory.signed_cell.Goals as goal

pub returns-in_err-recall-clause-queries : goal.returns-in_err-recall-clause-queries
returns-in_err-recall-clause-queries g c =
    cell_cut c.args.question.now.options.now c.args.question.now.from.now c.args.question.now.to.now
    c.args.number.now.text.now c.args.number.now.signed c.requires.signed
    c.args.table.now c.recall.new.table c.args.steps.now c.recall.new.steps c.recall.ensures.deck _
    c.from_residual.result c.from_residual.ensures.1
    c.in_err-recall.ensures.asked

pub returns-in_err-cell-clause-queries : goal.returns-in_err-cell-clause-queries
returns-in_err-cell-clause-queries g c =
    cell_stopped c.args.question.now.options.now c.args.question.now.from.now c.args.question.now.to.now
    c.args.number.now.text.now c.args.number.now.signed c.requires.signed
    c.args.table.now c.recall.new.table c.args.steps.now c.recall.new.steps c.recall.ensures.deck
    c.in_ok-recall.ensures.asked _
    c.from_residual-in_err-cell.result c.from_residual-in_err-cell.ensures.1

pub returns-in-Some-clause-queries : goal.returns-in-Some-clause-queries
returns-in-Some-clause-queries g c =
    queries_known c.args.question.now.options.now c.args.question.now.from.now c.args.question.now.to.now
    c.args.number.now.text.now c.args.number.now.signed c.requires.signed
    c.args.table.now c.recall.new.table c.args.steps.now c.recall.new.steps c.recall.ensures.deck
    c.in_ok-recall.ensures.asked
    c.recall.new.self c.in-Some.cell
    (some_recalled_cell_value_holds _ _ c.in-Some.cell c.in-Some.is c.in_ok-cell.ensures)
    c.in_ok-recall.ensures.known

pub returns-clause-cell : goal.returns-clause-cell
returns-clause-cell g c =
    cell_made c.args.question.now.options.now c.args.question.now.from.now c.args.question.now.to.now
    c.args.number.now.text.now c.args.number.now.signed c.requires.signed
    c.args.table.now c.recall.new.table c.args.steps.now c.recall.new.steps c.recall.ensures.deck c.number_cell.result
    c.number_cell.ensures.cell

pub returns-clause-queries : goal.returns-clause-queries
returns-clause-queries g c =
    queries_made c.args.question.now.options.now c.args.question.now.from.now c.args.question.now.to.now
    c.args.number.now.text.now c.args.number.now.signed c.requires.signed
    c.args.table.now c.recall.new.table c.args.steps.now c.recall.new.steps c.recall.ensures.deck
    c.in_ok-recall.ensures.asked
    c.number_cell.result c.number_cell.new.table c.number_cell.new.steps c.number_cell.ensures.queries
