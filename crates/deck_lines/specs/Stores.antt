-- The view of a store of lines.
use Rattle.std.specs.Prelude.{◌++◌, ℕ, List, [], ◌∷◌, Option, Some, None, slice_get}
use Rattle.std.specs.Option.{option_and_then}
use Rattle.def_entry.specs.declared.key.Key.{Key}
use Rattle.def_entry.specs.Entries.{Entry}
use Rattle.deck_lines.specs.Names.{KeyNumberNames, key_numbers_with_key, no_key_number_names}
use Rattle.deck_lines.specs.Readings.{entry_in_store_line}
use Rattle.deck_lines.specs.declared.line.DeckLine.{DeckLine}

-- the lines, and the numbers of the keys that they define or once defined
pub record LineStoreView : Type 0 where
  pub lines : List DeckLine
  pub names : KeyNumberNames

abbrev pub store_without_lines : LineStoreView
store_without_lines = record { lines = []; names = no_key_number_names }

-- the definition of the line at a place, if it has one
abbrev pub store_definition_at : List DeckLine → ℕ → Option (Key × Entry)
store_definition_at lines place = option_and_then entry_in_store_line (slice_get lines place)

-- names with a number for the key of a definition
abbrev pub key_numbers_by_definition : KeyNumberNames → Option (Key × Entry) → KeyNumberNames
key_numbers_by_definition names None = names
key_numbers_by_definition names (Some definition) = key_numbers_with_key names definition.0

-- a store with one more line appended
abbrev pub store_with_line : LineStoreView → DeckLine → LineStoreView
store_with_line store line =
    record {
      lines = store.lines ++ line ∷ [];
      names = key_numbers_by_definition store.names (entry_in_store_line line);
    }
