use Rattle.column_convert.proofs.CutQueries.{no_cell_query_before_memory_end}
use Rattle.column_convert.proofs.columns.Columns.write_next.Goals as goal

pub returns-in_err-read-clause-queries : goal.returns-in_err-read-clause-queries
returns-in_err-read-clause-queries g c =
    no_cell_query_before_memory_end _ c.from_residual.result _ c.args.table.now c.args.steps.now
    c.from_residual.ensures.1
    c.outcomes_are_right.ensures
