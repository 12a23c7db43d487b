use Rattle.column_convert.proofs.RecallQueries.{no_cell_query_is_begun}
use Rattle.column_convert.proofs.cached_values.ask_values.Goals as goal

pub returns-in_err-trees-clause-asked : goal.returns-in_err-trees-clause-asked
returns-in_err-trees-clause-asked g c =
    no_cell_query_is_begun c.from_residual.result c.args.question.now.from.now c.args.question.now.to.now c.args.n.now
    c.args.table.now c.args.steps.now
    c.outcomes_are_right.ensures
