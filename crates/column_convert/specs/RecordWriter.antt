-- Records as they are written, one after another.
use Rattle.std.specs.Prelude.{◌≡◌, ℕ, Bool, false, true, List, Option, Some, None, Vec}
use Rattle.std.specs.declared.alloc.Global.{Global}
use Rattle.std.specs.Io.KnownBytes.{Appends}
use Rattle.csv.specs.Writing.{default_writer, fields_written, has_written, text_written, with_flexible, writer_setup}
use Rattle.csv.specs.declared.writer.Writer.{Writer}
use Rattle.column_convert.specs.declared.column_row.ColumnRow.{ColumnRow}

-- everything that a writer wrote
abbrev pub record_writer_text : Writer (Vec ℕ Global) → Option (List ℕ)
record_writer_text writer = text_written (λ (v : Vec ℕ Global). Some v.items) writer

-- a writer with the default settings, but for records of any length, between two records
pub record IsIdleRecordWriter (writer : Writer (Vec ℕ Global)) : Type 0 where
  pub setup : writer_setup writer ≡ with_flexible default_writer true
  pub fields : fields_written writer ≡ 0
  pub nothing_written : has_written writer ≡ false

-- the writer has appended this text
abbrev pub RecordWriterAppends : (before after : Writer (Vec ℕ Global)) → List ℕ → Type 0
RecordWriterAppends before after text = Appends (record_writer_text before) (record_writer_text after) text

-- the writer has appended this row, and `refused` says whether its cell is an error
pub record IsRowWritten (before after : Writer (Vec ℕ Global)) (refused : Bool) (row : ColumnRow) : Type 0 where
  pub appends_text : RecordWriterAppends before after row.text
  pub refused_is : refused ≡ row.refused

-- the writer has appended the next row, or nothing if there is none
abbrev pub IsNextRowWritten : (before after : Writer (Vec ℕ Global)) → Option Bool → Option ColumnRow → Type 0
IsNextRowWritten before after (Some refused) (Some row) = IsRowWritten before after refused row
IsNextRowWritten before after None None = after ≡ before
IsNextRowWritten before after _ _ = ⊥
