-- The rows of column input.
use Rattle.std.specs.Prelude.{◌≡◌, ◌++◌, ℕ, Bool, true, false, List, [], ◌∷◌, slice_set, Option, Some, None}
use Rattle.csv.specs.Records.{field_at}
use Rattle.csv.specs.Writing.{default_writer, row_text}
use Rattle.def_entry.specs.Tables.{EntryTable}
use Rattle.live_table.specs.States.{LiveEvent}
use Rattle.reply.specs.declared.options.Options.{Options}
use Rattle.column_convert.specs.declared.cell.Cell.{Cell}
use Rattle.column_convert.specs.declared.column_row.ColumnRow.{ColumnRow}
use Rattle.column_convert.specs.Cells.{cell, cell_queries}
use Rattle.column_convert.specs.Inputs.{ColumnInput, rest_of_column_input}
use Rattle.column_convert.specs.Records.{RecordFields}

-- the row of a record that stays as it is
abbrev pub row_of_unchanged_record : RecordFields → ColumnRow
row_of_unchanged_record fields = record { text = row_text default_writer fields; refused = false }

-- the row of a record with this cell at a place
abbrev pub cell_row : RecordFields → (place : ℕ) → Cell → ColumnRow
cell_row fields place cell = record {
  text = row_text default_writer (slice_set fields place cell.text);
  refused = cell.refused;
}

module _ (table : EntryTable) (options : Options) (from to : List ℕ) where
  -- the row of a record, given its field in the column, if it has one
  abbrev pub row_by : RecordFields → (place : ℕ) → Option (List ℕ) → ColumnRow
  row_by fields place (Some field) = cell_row fields place (cell table options from to field)
  row_by fields place None = row_of_unchanged_record fields

  abbrev pub queries_by : Option (List ℕ) → List LiveEvent
  queries_by (Some field) = cell_queries table options from to field
  queries_by None = []

  -- the row of a record; a header stays as it is
  abbrev pub row : (place : ℕ) (headed : Bool) → RecordFields → ColumnRow
  row place true fields = row_of_unchanged_record fields
  row place false fields = row_by fields place (field_at fields place)

  abbrev pub row_queries : (place : ℕ) (headed : Bool) → RecordFields → List LiveEvent
  row_queries place true fields = []
  row_queries place false fields = queries_by (field_at fields place)

  -- all rows, the first of which may be a header
  abbrev pub rows_of : (place : ℕ) (headed : Bool) → List RecordFields → List ColumnRow
  rows_of place headed [] = []
  rows_of place headed (fields ∷ left) = row place headed fields ∷ rows_of place false left

  abbrev pub rows_queries : (place : ℕ) (headed : Bool) → List RecordFields → List LiveEvent
  rows_queries place headed [] = []
  rows_queries place headed (fields ∷ left) =
      row_queries place headed fields ++ rows_queries place false left

  abbrev pub rows : ColumnInput → List ColumnRow
  rows i = rows_of i.place i.has_header i.records

  abbrev pub queries : ColumnInput → List LiveEvent
  queries i = rows_queries i.place i.has_header i.records

  -- the next row, if one is left
  abbrev pub next_of : (place : ℕ) (headed : Bool) → List RecordFields → Option ColumnRow
  next_of place headed [] = None
  next_of place headed (fields ∷ left) = Some (row place headed fields)

  abbrev pub next_queries_of : (place : ℕ) (headed : Bool) → List RecordFields → List LiveEvent
  next_queries_of place headed [] = []
  next_queries_of place headed (fields ∷ left) = row_queries place headed fields

  abbrev pub next_row : ColumnInput → Option ColumnRow
  next_row i = next_of i.place i.has_header i.records

  abbrev pub next_queries : ColumnInput → List LiveEvent
  next_queries i = next_queries_of i.place i.has_header i.records

-- a row, if there is one, before others
abbrev pub row_before_rows : Option ColumnRow → List ColumnRow → List ColumnRow
row_before_rows (Some row) rows = row ∷ rows
row_before_rows None rows = []

-- law: the rows are the next row and the rows after it, and so are the queries
abbrev pub ColumnRowsLaw : Type 0
ColumnRowsLaw = (table : EntryTable) (options : Options) (from to : List ℕ) (i : ColumnInput)
    → (rows table options from to i ≡ row_before_rows (next_row table options from to i)
    (rows table options from to (rest_of_column_input i)))
    × (queries table options from to i ≡ next_queries table options from to i ++ queries table options from to
    (rest_of_column_input i))
