-- New numbers for the keys that lines define.
use Rattle.std.specs.Prelude.{◌≡◌, List, map, Option, Some, option_map}
use Rattle.def_entry.specs.declared.key.Key.{Key}
use Rattle.def_entry.specs.Entries.{Entry}
use Rattle.deck_lines.specs.Loads.{key_numbers_by_definitions}
use Rattle.deck_lines.specs.Names.{AreKeyNumbersOneToOne, KeyNumberNames, key_numbered, no_key_number_names}
use Rattle.deck_lines.specs.NumberedKeys.{key_number_names_in}
use Rattle.deck_lines.specs.Readings.{entry_in_store_line}
use Rattle.deck_lines.specs.declared.key_number.KeyNumber.{KeyNumber}
use Rattle.deck_lines.specs.declared.line.DeckLine.{DeckLine}
use Rattle.deck_lines.specs.declared.store.new_key_numbers.Renumbering.{Renumbering}

-- the keys that have a number after a renumbering
abbrev pub key_number_names_after : Renumbering → KeyNumberNames
key_number_names_after r = key_number_names_in r.keys

-- `numbers` are the numbers of the keys that lines define
abbrev pub AreKeyNumbersOfLines : KeyNumberNames → List (Option KeyNumber) → List (Option (Key × Entry)) → Type 0
AreKeyNumbersOfLines names numbers said = map (option_map (key_numbered names)) numbers ≡ map
    (option_map (λ d. Some d.0)) said

-- the renumbering has the numbers that keys get if these lines are put into an empty store one after another, and for
-- each line the number of the key that it defines
pub record IsKeyRenumbering (lines : List DeckLine) (r : Renumbering) : Type 0 where
  pub names : key_number_names_after r ≡ key_numbers_by_definitions no_key_number_names lines
  pub definition_numbers : AreKeyNumbersOfLines (key_number_names_after r) r.of_lines.items
      (map entry_in_store_line lines)
  pub unique : AreKeyNumbersOneToOne (key_number_names_after r)
