-- The rows of a few inputs over a small table, worked out by hand.
use Rattle.std.specs.Prelude.{◌≡◌, ℕ, true, false, List, [], ◌∷◌, codes}
use Rattle.reply.specs.Examples.{default_reply_options, small_reply_table}
use Rattle.column_convert.specs.declared.column_row.ColumnRow.{ColumnRow}
use Rattle.column_convert.specs.Rows.{queries, rows}
use Rattle.column_convert.specs.Cells.{cell_conversion_text, first_cell_line, is_signed_cell_numeral}
use Rattle.column_convert.specs.Inputs.{ColumnInput, column_input_of_text}

abbrev pub unchanged_row : List ℕ → ColumnRow
unchanged_row text = record { text = text; refused = false }

abbrev pub error_row : List ℕ → ColumnRow
error_row text = record { text = text; refused = true }

-- an input with a header, of which the first column is converted
abbrev pub column_input_with_header : List ℕ → ColumnInput
column_input_with_header text = column_input_of_text text 1 true

-- an input without a header, of which the second column is converted
abbrev pub input_of_second_column : List ℕ → ColumnInput
input_of_second_column text = column_input_of_text text 2 false

-- law: the texts that are numbers, and the texts converted for them
abbrev pub CellNumbersLaw : Type 0
CellNumbersLaw =
    (is_signed_cell_numeral (codes "-1.5e3") ≡ true)
    × (is_signed_cell_numeral (codes ".5") ≡ true)
    × (is_signed_cell_numeral (codes "") ≡ false)
    × (is_signed_cell_numeral (codes "-") ≡ false)
    × (is_signed_cell_numeral (codes "--1") ≡ false)
    × (is_signed_cell_numeral (codes "+1") ≡ false)
    × (is_signed_cell_numeral (codes "- 1") ≡ false)
    × (is_signed_cell_numeral (codes "1|2") ≡ false)
    × (is_signed_cell_numeral (codes "1 m") ≡ false)
    × (cell_conversion_text small_reply_table (codes "m/s") (codes "-2") ≡ codes "(-2) (m/s)")
    × (cell_conversion_text small_reply_table (codes "gauge") (codes "-2") ≡ codes "gauge(-2)")
    × (first_cell_line (codes "conformability error\n1 m\n1 s\n") ≡ codes "conformability error")

-- law: records that stay as they are: no records, a header alone, short records; unneeded quotes, carriage returns,
-- empty lines and a byte order mark are dropped
abbrev pub UnchangedRecordsLaw : Type 0
UnchangedRecordsLaw =
    (rows small_reply_table default_reply_options (codes "m") (codes "m") (column_input_with_header []) ≡ [])
    × (rows small_reply_table default_reply_options (codes "m") (codes "m")
    (column_input_with_header (codes "\"len\",\"a,b\"\r\n"))
    ≡ unchanged_row (codes "len,\"a,b\"\n") ∷ [])
    × (rows small_reply_table default_reply_options (codes "m") (codes "m")
    (input_of_second_column (239 ∷ 187 ∷ 191 ∷ codes "a\n\n\"\"\n"))
    ≡ unchanged_row (codes "a\n") ∷ unchanged_row (codes "\"\"\n") ∷ [])
    × (queries small_reply_table default_reply_options (codes "m") (codes "m")
    (input_of_second_column (codes "a\nb,\n")) ≡ [])

-- law: fields that are not numbers, and refused replies; the blanks around a field are replaced together with the field
abbrev pub RefusedCellsLaw : Type 0
RefusedCellsLaw =
    (rows small_reply_table default_reply_options (codes "m") (codes "m")
    (input_of_second_column (codes "a, x \nb,,c\n"))
    ≡ error_row (codes "a,error: not a number\n") ∷ error_row (codes "b,error: not a number,c\n") ∷ [])
    × (rows small_reply_table default_reply_options (codes "2 +") (codes "m")
    (column_input_with_header (codes "len\n 7 \n"))
    ≡ unchanged_row (codes "len\n") ∷ error_row (codes "error: syntax error at 8\n") ∷ [])
    × (rows small_reply_table default_reply_options (codes "nosuch") (codes "m") (input_of_second_column (codes "1,2"))
    ≡ error_row (codes "1,error: unknown unit: nosuch\n") ∷ [])

abbrev pub ColumnExamplesLaw : Type 0
ColumnExamplesLaw = CellNumbersLaw × UnchangedRecordsLaw × RefusedCellsLaw
