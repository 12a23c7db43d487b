-- The output of a run over column input, and its ending.
use Rattle.std.specs.Prelude.{◌≡◌, ℕ, Bool, true, false, List, if◌then◌else◌}
use Rattle.std.specs.declared.option.Option.{Option}
pub use Rattle.column_convert.specs.Blocks.{is_error_row, text_of_rows}
use Rattle.column_convert.specs.declared.column_row.ColumnRow.{ColumnRow}
use Rattle.units_io.specs.Bytes.{sink_bytes_append, SinkGrowsByPrefix}
use Rattle.units_run.specs.declared.column_end.ColumnEnd.{ColumnEnd}
use Rattle.units_run.specs.declared.column_end.ColumnEnd.TheVariants.{Done, Refused, ReadFault, InputTooLong}

-- how a run over these rows ends, apart from faults, limits and running out of memory
abbrev pub column_run_end : List ColumnRow → ColumnEnd
column_run_end rows = if is_error_row rows then Refused else Done

-- the bytes on the sink, by the ending: all rows, nothing new, or a front of the rows
abbrev pub AreColumnRunRowsWritten : List ColumnRow → ColumnEnd → (before after : Option (List ℕ)) → Type 0
AreColumnRunRowsWritten rows Done before after =
    (column_run_end rows ≡ Done) × (after ≡ sink_bytes_append before (text_of_rows rows))
AreColumnRunRowsWritten rows Refused before after =
    (column_run_end rows ≡ Refused) × (after ≡ sink_bytes_append before (text_of_rows rows))
AreColumnRunRowsWritten rows ReadFault before after = after ≡ before
AreColumnRunRowsWritten rows InputTooLong before after = after ≡ before
AreColumnRunRowsWritten rows end before after = SinkGrowsByPrefix before after (text_of_rows rows)

-- whether the run finished
abbrev pub is_column_run_over : ColumnEnd → Bool
is_column_run_over Done = true
is_column_run_over Refused = true
is_column_run_over end = false
