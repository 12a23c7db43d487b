-- The input after a single row.
use Rattle.std.proofs.Common.{◌≡◌, refl}
use Rattle.column_convert.specs.Blocks.{column_input_after}
use Rattle.column_convert.specs.Inputs.{ColumnInput, rest_of_column_input}

-- the input after one record
pub column_input_after_one : (i : ColumnInput) → column_input_after 1 i ≡ rest_of_column_input i
unfolding column_input_after
column_input_after_one i = refl
