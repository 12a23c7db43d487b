-- The state outside the program.
use Rattle.std.specs.Prelude.{◌≡◌, ◌⊎◌, ◌+◌, ◌++◌, ◌-◌, ◌^◌, ◌<◌, [], ℕ, List, true, length, take, Some, None}
use Rattle.std.specs.declared.option.Option.{Option}
use Rattle.std.specs.List.{list_any}
use Rattle.units_io.specs.Bytes.{sink_bytes_append}
use Rattle.units_io.specs.FileMap.{FileMap}
use Rattle.units_io.specs.Faults.{HasIoCountRisen}
use Rattle.session.specs.HeardLines.{is_last_session_line}
use Rattle.session.specs.Input.{whole_input_lines}

-- the known contents of the source, the sinks and the files; the counts of failed fetches and stores; and the count of
-- steps
pub record SessionOutside : Type 0 where
  pub input_left : Option (List ℕ)
  pub out : Option (List ℕ)
  pub err : Option (List ℕ)
  pub files : Option FileMap
  pub fetch_faults : ℕ
  pub store_faults : ℕ
  pub steps : ℕ

abbrev pub session_outside : (left out err : Option (List ℕ)) → Option FileMap → (fetch_faults store_faults steps : ℕ)
    → SessionOutside
session_outside left out err files fetch_faults store_faults steps = record {
  input_left = left;
  out = out;
  err = err;
  files = files;
  fetch_faults = fetch_faults;
  store_faults = store_faults;
  steps = steps;
}

-- the bytes of an input that were read, given the bytes left of it
abbrev pub input_taken : (input : List ℕ) → (left : Option (List ℕ)) → List ℕ
input_taken input None = []
input_taken input (Some left) = take (length input - length left) input

-- an input was read to its end, or to a line that ends the session
abbrev pub IsInputReadToEnd : (input : List ℕ) → (left : Option (List ℕ)) → Type 0
IsInputReadToEnd input left =
    (left ≡ Some []) ⊎ (list_any is_last_session_line (whole_input_lines (input_taken input left)) ≡ true)

-- more than `most` bytes were read between two counts, which saturate at the maximum of their type
abbrev pub SessionTookMoreThan : (most before after : ℕ) → Type 0
SessionTookMoreThan most before after = (before + most < after) ⊎ (after ≡ 2 ^ 64 - 1)

-- a known list of bytes has grown at its end by these bytes, and perhaps by more
abbrev pub SessionSinkGrowsAtLeast : (old new : Option (List ℕ)) → (bytes : List ℕ) → Type 0
SessionSinkGrowsAtLeast old new bytes = (more : List ℕ) × (new ≡ sink_bytes_append old (bytes ++ more))

-- a count that has not risen
abbrev pub SessionCountUnchanged : (before now : ℕ) → Type 0
SessionCountUnchanged before now = HasIoCountRisen before now → ⊥
