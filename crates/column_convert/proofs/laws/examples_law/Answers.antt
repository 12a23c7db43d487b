use Rattle.column_convert.proofs.Examples.{cell_numbers_law, refused_cells_law, unchanged_records_law}
use Rattle.column_convert.proofs.laws.examples_law.Goals as goal

pub returns : goal.returns
returns c = (cell_numbers_law, unchanged_records_law, refused_cells_law)
