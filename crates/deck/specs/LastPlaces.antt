-- The last places of keys, indexed by the numbers of the keys.
use Rattle.std.specs.Prelude.{◌≡◌, ◌<◌, ℕ, List, length, map, Option, option_map}
use Rattle.std.specs.Option.{option_and_then}
use Rattle.def_entry.specs.declared.key.Kind.{Kind}
use Rattle.def_entry.specs.declared.key.Kind.TheVariants as kind
use Rattle.gap_list.specs.Gaps.{place_without_gaps}
use Rattle.deck_lines.specs.ClosedBlocks.{AreBlocksClosed}
use Rattle.deck_lines.specs.Names.{KeyNumberNames, key_number_names_of_kind, key_numbered}
use Rattle.deck_lines.specs.Stores.{LineStoreView}
use Rattle.deck_lines.specs.declared.key_number.KeyNumber.{KeyNumber}
use Rattle.deck.specs.Changes.{each_deck_key_once}
use Rattle.deck.specs.KeyLists.{deck_keys_of_kind}
use Rattle.deck.specs.KindPlaces.{definition_place_count, definition_place_in}
use Rattle.deck.specs.Tables.{DeckDefinitions, EntryTable, active_definitions, definition_place_of, keys_of_entries}
use Rattle.deck.specs.Tables.{table_of_deck_definitions}
use Rattle.deck.specs.declared.places.key_places.KeyPlaces.{KeyPlaces}
use Rattle.deck.specs.declared.places.last_places.LastPlaces.{LastPlaces}
use Rattle.deck.specs.declared.settings.Settings.{Settings}

-- the places of the keys of a kind
abbrev pub definition_places_of_kind : KeyPlaces → Kind → List (Option ℕ)
definition_places_of_kind places kind.Unit = places.units
definition_places_of_kind places kind.Prefix = places.prefixes
definition_places_of_kind places kind.Func = places.functions
definition_places_of_kind places kind.List = places.lists

-- the last places of the keys of a kind, which are stored as slots
abbrev pub last_definition_places : LastPlaces → Kind → List (Option ℕ)
last_definition_places last kind = map (option_map (place_without_gaps last.gaps))
    (definition_places_of_kind last.slots kind)

abbrev pub last_definition_place_at : LastPlaces → KeyNumber → Option ℕ
last_definition_place_at last n = definition_place_in (last_definition_places last n.kind) n.number

-- there is room for the place of each key that has a number
abbrev pub HasDefinitionPlaceRoom : KeyNumberNames → LastPlaces → Type 0
HasDefinitionPlaceRoom names last = (kind : Kind) → length (key_number_names_of_kind names kind) < length
    (last_definition_places last kind)

-- the number of keys of a kind that have an entry. Each key is counted where it occurs last; this agrees with
-- `key_count`.
abbrev pub deck_key_tally : EntryTable → Kind → ℕ
deck_key_tally table kind = length (deck_keys_of_kind kind (each_deck_key_once (keys_of_entries table)))

-- the entry at the number of each key is the place of the last definition of the key, if there is one
pub record AreLastDefinitionPlaces (names : KeyNumberNames) (ds : DeckDefinitions) (last : LastPlaces) : Type 0 where
  pub place : (n : KeyNumber) → last_definition_place_at last n ≡ option_and_then (definition_place_of ds)
      (key_numbered names n)
  pub count : (kind : Kind) → definition_place_count (last_definition_places last kind) ≡ deck_key_tally
      (table_of_deck_definitions ds) kind

-- the lines are closed, and `last` has the last places of their keys
pub record IsDeckIndexed (store : LineStoreView) (settings : Settings) (last : LastPlaces) : Type 0 where
  pub blocks_closed : AreBlocksClosed store.lines
  pub places : AreLastDefinitionPlaces store.names (active_definitions settings store.lines) last
