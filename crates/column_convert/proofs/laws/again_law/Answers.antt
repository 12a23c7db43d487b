use Rattle.column_convert.proofs.Again.{cell_queries_again_take_no_step}
use Rattle.column_convert.proofs.laws.again_law.Goals as goal

pub returns : goal.returns
returns c = cell_queries_again_take_no_step
