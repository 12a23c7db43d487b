-- What is stored about lines in addition to their texts.
use Rattle.std.specs.Prelude.{◌≡◌, ◌<◌, List, ◌∷◌, map, Option, Some, None, option_map, ⊤}
use Rattle.def_entry.specs.declared.entry.What.{What as MadeWhat}
use Rattle.def_entry.specs.declared.key.Key.{Key}
use Rattle.def_entry.specs.Entries.{Entry, What}
use Rattle.def_entry.specs.Views.{entry_definition_view}
use Rattle.deck_lines.specs.Names.{AreKeyNumbersOneToOne, KeyNumberNames, key_numbered}
use Rattle.deck_lines.specs.NumberedKeys.{key_number_names_in, spare_key_numbers_of_kind}
use Rattle.deck_lines.specs.Readings.{entry_in_store_line}
use Rattle.deck_lines.specs.declared.key_number.KeyNumber.{KeyNumber}
use Rattle.deck_lines.specs.declared.line.DeckLine.{DeckLine}
use Rattle.deck_lines.specs.declared.store.definitions.Definition.{Definition}
use Rattle.deck_lines.specs.declared.store.definitions.Definitions.{Definitions}
use Rattle.deck_lines.specs.declared.store.key_numbers.KeyNumbers.{KeyNumbers}

-- the view of a definition, with the key that has its number
abbrev pub seen_store_definition : KeyNumberNames → Definition → Option Key × What
seen_store_definition names d = (key_numbered names d.key, entry_definition_view d.what)

-- the view of a definition without the text of its entry, which is part of its line
abbrev pub keyed_store_definition : Key × Entry → Option Key × What
keyed_store_definition d = (Some d.0, d.1.what)

-- `definitions` are the definitions `said` of lines, if keys have these numbers
abbrev pub IsStoreDefined : KeyNumberNames → List (Option Definition) → List (Option (Key × Entry)) → Type 0
IsStoreDefined names definitions said =
    map (option_map (seen_store_definition names)) definitions ≡ map (option_map keyed_store_definition) said

abbrev pub AreStoreDefinitionsOf : Definitions → List (Option (Key × Entry)) → Type 0
AreStoreDefinitionsOf definitions said = IsStoreDefined (key_number_names_in definitions.keys)
    definitions.of_lines.listed said

abbrev pub HasRoomForKeyNumber : KeyNumbers → Option (Key × MadeWhat) → Type 0
HasRoomForKeyNumber keys None = ⊤
HasRoomForKeyNumber keys (Some definition) = 0 < spare_key_numbers_of_kind keys definition.0.kind

-- the definition of one more line can be added without an allocation
pub record HasRoomForStoreDefinition (definitions : Definitions) (definition : Option (Key × MadeWhat)) : Type 0 where
  pub room_for_line : 0 < definitions.of_lines.spare
  pub room_for_key : HasRoomForKeyNumber definitions.keys definition

-- the definitions are those of the lines, and no key has two numbers
pub record HoldsStoreDefinitions (lines : List DeckLine) (definitions : Definitions) : Type 0 where
  pub definitions_right : AreStoreDefinitionsOf definitions (map entry_in_store_line lines)
  pub unique : AreKeyNumbersOneToOne (key_number_names_in definitions.keys)

-- a definition with another number for its key, if both are present
abbrev pub key_numbered_definition : Option KeyNumber → Option Definition → Option Definition
key_numbered_definition (Some number) (Some d) = Some (record d { key = number })
key_numbered_definition _ d = d

-- definitions, each with the number at the same place
abbrev pub key_numbered_definitions : List (Option KeyNumber) → List (Option Definition) → List (Option Definition)
key_numbered_definitions (number ∷ numbers) (d ∷ ds) = key_numbered_definition number d ∷ key_numbered_definitions
    numbers ds
key_numbered_definitions _ ds = ds
