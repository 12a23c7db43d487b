-- The rows of a column to be converted.
use Rattle.std.specs.Prelude.{ℕ, List}
use Rattle.deck.specs.Tables.{table_of_deck}
use Rattle.live_table.specs.States.{LiveEvent}
use Rattle.column_convert.specs.Inputs.{ColumnInput, column_input_of_text}
use Rattle.column_convert.specs.declared.column_row.ColumnRow.{ColumnRow}
use Rattle.column_convert.specs.Rows.{queries, rows}
use Rattle.units_run.specs.declared.column_task.ColumnTask.{ColumnTask}

-- the rows of these records, and the queries that their cells make
abbrev pub column_run_rows : ColumnTask → ColumnInput → List ColumnRow
column_run_rows task records = rows (table_of_deck task.table.deck) task.options task.from task.to records

abbrev pub column_run_queries : ColumnTask → ColumnInput → List LiveEvent
column_run_queries task records = queries (table_of_deck task.table.deck) task.options task.from task.to records

-- the rows of an input of these bytes, and the queries that their cells make
abbrev pub column_run_rows_of_bytes : ColumnTask → (bytes : List ℕ) → List ColumnRow
column_run_rows_of_bytes task bytes = column_run_rows task (column_input_of_text bytes task.column task.header)

abbrev pub column_run_queries_of_bytes : ColumnTask → (bytes : List ℕ) → List LiveEvent
column_run_queries_of_bytes task bytes = column_run_queries task (column_input_of_text bytes task.column task.header)
