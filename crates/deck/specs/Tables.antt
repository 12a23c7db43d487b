-- The table of a deck.
use Rattle.std.specs.Prelude.{◌≡◌, ◌≤◌, ◌+◌, ◌++◌, ℕ, List, [], ◌∷◌, Bool, if◌then◌else◌, length, map, reverse, Option}
use Rattle.std.specs.Prelude.{Some, None, option_map}
use Rattle.std.specs.Map.{lookup}
use Rattle.def_entry.specs.declared.key.Key.{Key}
use Rattle.def_entry.specs.Entries.{Entry}
use Rattle.def_entry.specs.SameKeys.{is_same_entry_key}
pub use Rattle.def_entry.specs.Tables.{EntryTable, entry_at, is_entry_present, keys_of_entries}
use Rattle.deck_lines.specs.Readings.{entry_in_store_line}
use Rattle.deck_lines.specs.Stores.{store_definition_at}
use Rattle.deck_lines.specs.declared.line.DeckLine.{DeckLine}
use Rattle.deck.specs.Active.{active_lines}
use Rattle.deck.specs.Decks.{DeckContents}
use Rattle.deck.specs.declared.settings.Settings.{Settings}

-- keys with the places of the lines that define them and their entries
abbrev pub DeckDefinitions : Type 0
DeckDefinitions = List (Key × (ℕ × Entry))

-- the definition of a line at a place, if the line is active
abbrev pub definition_of_active_line : ℕ → Bool → Option (Key × Entry) → DeckDefinitions
definition_of_active_line place active None = []
definition_of_active_line place active (Some e) = if active then (e.0, (place, e.1)) ∷ [] else []

-- the definitions of the active lines among some lines, of which the first has this place
abbrev pub active_definitions_from : ℕ → List Bool → List DeckLine → DeckDefinitions
active_definitions_from place (active ∷ flags) (line ∷ lines) =
    definition_of_active_line place active (entry_in_store_line line) ++ active_definitions_from (place + 1) flags lines
active_definitions_from place _ _ = []

-- the definitions of the active lines among all lines, the last one first
abbrev pub active_definitions_among : List Bool → List DeckLine → DeckDefinitions
active_definitions_among flags lines = reverse (active_definitions_from 0 flags lines)

-- the definitions of the active lines of a deck, the last one first
unfoldable pub active_definitions : Settings → List DeckLine → DeckDefinitions
active_definitions settings lines = active_definitions_among (active_lines settings lines) lines

-- the place of the last active line of a key
abbrev pub definition_place_of : DeckDefinitions → Key → Option ℕ
definition_place_of active_definitions k = option_map (λ p. p.0) (lookup (is_same_entry_key k) active_definitions)

abbrev pub last_definition_place : Settings → List DeckLine → Key → Option ℕ
last_definition_place settings lines k = definition_place_of (active_definitions settings lines) k

-- definitions without their places
abbrev pub table_of_deck_definitions : DeckDefinitions → EntryTable
table_of_deck_definitions active_definitions = map (λ p. (p.0, p.1.1)) active_definitions

-- the table of a deck
abbrev pub table_of_deck : DeckContents → EntryTable
table_of_deck d = table_of_deck_definitions (active_definitions d.settings d.lines)

-- law: a table has at most as many entries as there are lines, and each entry is defined by a line
pub record DeckTableLaw : Type 0 where
  pub table_length : (d : DeckContents) → length (table_of_deck d) ≤ length d.lines
  pub gives_each : (d : DeckContents) (k : Key) (e : Entry) → entry_at (table_of_deck d) k ≡ Some e
      → (place : ℕ) × (store_definition_at d.lines place ≡ Some (k, e))
