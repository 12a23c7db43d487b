use Rattle.column_convert.proofs.Rows.{column_rows_law}
use Rattle.column_convert.proofs.laws.rows_law.Goals as goal

pub returns : goal.returns
returns c = column_rows_law
