use Rattle.column_convert.proofs.RecallQueries.{cell_queries_begun_without_memory}
use Rattle.column_convert.proofs.memory.Memory.recall.Goals as goal

pub returns-in_err-known-clause-asked : goal.returns-in_err-known-clause-asked
returns-in_err-known-clause-asked g c =
    cell_queries_begun_without_memory _ c.from_residual.result c.args.question.now.from.now c.args.question.now.to.now
    c.args.n.now
    c.args.table.now
    c.ask_values.new.table c.args.steps.now c.ask_values.new.steps c.from_residual.ensures.1
    c.in_err-known.ensures.asked
