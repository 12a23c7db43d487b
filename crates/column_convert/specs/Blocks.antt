-- Rows in blocks.
use Rattle.std.specs.Prelude.{◌≡◌, ◌++◌, ◌||◌, ℕ, zero, suc, Bool, false, List, [], ◌∷◌, length, take, Option, Some, None}
use Rattle.def_entry.specs.Tables.{EntryTable}
use Rattle.reply.specs.declared.options.Options.{Options}
use Rattle.column_convert.specs.declared.block.Block.{Block}
use Rattle.column_convert.specs.declared.column_row.ColumnRow.{ColumnRow}
use Rattle.column_convert.specs.Rows.{queries, rows}
use Rattle.column_convert.specs.Inputs.{ColumnInput, rest_of_column_input}

-- the bytes of rows, one after another
abbrev pub text_of_rows : List ColumnRow → List ℕ
text_of_rows [] = []
text_of_rows (row ∷ rows) = row.text ++ text_of_rows rows

-- whether the cell of a row is an error
abbrev pub is_error_row : List ColumnRow → Bool
is_error_row [] = false
is_error_row (row ∷ rows) = row.refused || is_error_row rows

-- rows as a block
abbrev pub block_of_rows : List ColumnRow → Block
block_of_rows rows = record { text = text_of_rows rows; rows = length rows; refused = is_error_row rows }

-- the row of a block of at most one row, if it has one
abbrev pub row_if_any : (rows : ℕ) → ColumnRow → Option ColumnRow
row_if_any zero row = None
row_if_any (suc n) row = Some row

abbrev pub only_row_of_block : Block → Option ColumnRow
only_row_of_block block = row_if_any block.rows (record { text = block.text; refused = block.refused })

-- the next n records, or fewer if fewer are left
abbrev pub first_records : ℕ → ColumnInput → ColumnInput
first_records n i = record { records = take n i.records; place = i.place; has_header = i.has_header }

-- the input after its next n records
unfoldable pub column_input_after : ℕ → ColumnInput → ColumnInput
column_input_after zero i = i
column_input_after (suc n) i = column_input_after n (rest_of_column_input i)

-- law: the rows are those of the next n records and the rows after them, and so are the queries
abbrev pub RowBlocksLaw : Type 0
RowBlocksLaw = (table : EntryTable) (options : Options) (from to : List ℕ) (n : ℕ) (i : ColumnInput)
    → (rows table options from to i
    ≡ rows table options from to (first_records n i) ++ rows table options from to (column_input_after n i))
    × (queries table options from to i
    ≡ queries table options from to (first_records n i) ++ queries table options from to (column_input_after n i))
