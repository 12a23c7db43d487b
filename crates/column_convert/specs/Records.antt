-- The records that a reader of a text has left.
use Rattle.std.specs.Prelude.{◌≡◌, ◌+◌, ℕ, true, List, [], Option, Some, length}
use Rattle.std.specs.Option.{option_map_or}
use Rattle.csv.specs.Reading.{Ready, default_config, is_flexible, reader_config, reader_state, reader_trim}
use Rattle.csv.specs.Reading.{records_from, source_of}
use Rattle.csv.specs.declared.parser.State.{State}
use Rattle.csv.specs.declared.reader.Reader.{Reader}
use Rattle.csv.specs.declared.reader.Trim.TheVariants as trim

-- the fields of a record
abbrev pub RecordFields : Type 0
RecordFields = List (List ℕ)

-- the records of a text from a state of the reader on
abbrev pub records_in : State → (text : List ℕ) → List RecordFields
records_in state text = records_from default_config (length text + 1) state text

-- the records that a reader has left, if its remaining text is known
abbrev pub records_left : {R : Type 0} → (R → Option (List ℕ)) → Reader R → List RecordFields
records_left text_of reader = option_map_or (records_in (reader_state reader)) (source_of text_of reader) []

-- a reader with the default settings that gives one record per call, of any length, and whose text is known
pub record IsPlainRecordReader {R : Type 0} (text_of : R → Option (List ℕ)) (reader : Reader R) : Type 0 where
  pub config : reader_config reader ≡ default_config
  pub trim : reader_trim reader ≡ trim.None
  pub flexible : is_flexible reader ≡ true
  pub ready : Ready reader
  pub has_source : (text : List ℕ) × (source_of text_of reader ≡ Some text)
