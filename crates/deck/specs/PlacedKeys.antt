-- Keys by the places of the lines that define them.
use Rattle.std.specs.Prelude.{◌≡◌, ◌++◌, ℕ, List, Bool, Option, Some, option_map}
use Rattle.std.specs.List.{filter_map}
use Rattle.def_entry.specs.declared.key.Key.{Key}
use Rattle.def_entry.specs.declared.key.Kind.TheVariants as kind
use Rattle.def_entry.specs.Entries.{Entry}
use Rattle.def_entry.specs.Keys.{key}
use Rattle.deck_lines.specs.Names.{KeyNumberNames, key_numbered}
use Rattle.deck_lines.specs.Stores.{LineStoreView, store_definition_at}
use Rattle.deck_lines.specs.declared.key_number.KeyNumber.{KeyNumber}
use Rattle.deck_lines.specs.declared.line.DeckLine.{DeckLine}
use Rattle.deck.specs.LastPlaces.{last_definition_place_at}
use Rattle.deck.specs.Numbers.{deck_keys_where}
use Rattle.deck.specs.declared.deck.keys.BorrowedKey.{BorrowedKey}
use Rattle.deck.specs.declared.deck.placed_keys.PlacedKey.{PlacedKey}
use Rattle.deck.specs.declared.places.last_places.LastPlaces.{LastPlaces}

-- the key that the line at a place defines, if it defines one
abbrev pub deck_key_at_place : List DeckLine → ℕ → Option Key
deck_key_at_place lines place = option_map (λ d. d.0) (store_definition_at lines place)

-- the keys that the lines at some places define
abbrev pub deck_keys_at_places : List DeckLine → (places : List ℕ) → List Key
deck_keys_at_places lines places = filter_map (deck_key_at_place lines) places

-- the view of a key with a borrowed name
abbrev pub borrowed_deck_key : BorrowedKey → Key
borrowed_deck_key k = key k.kind k.name.now

-- the view of a key with a place
abbrev pub placed_deck_key : PlacedKey → Key
placed_deck_key k = key k.kind k.name.now

-- the line at the place of a key defines the key
abbrev pub IsKeyInDefinitionPlace : List DeckLine → PlacedKey → Type 0
IsKeyInDefinitionPlace lines k = deck_key_at_place lines k.place ≡ Some (placed_deck_key k)

-- the line at the last place of each key defines that key
abbrev pub AreKeysInDefinitionPlaces : LineStoreView → LastPlaces → Type 0
AreKeysInDefinitionPlaces store last =
    (n : KeyNumber) (place : ℕ) → last_definition_place_at last n ≡ Some place
    → deck_key_at_place store.lines place ≡ key_numbered store.names
    n

-- the keys whose numbers pass a test, kind by kind
abbrev pub deck_keys_of_all_kinds : (KeyNumber → Bool) → KeyNumberNames → List Key
deck_keys_of_all_kinds test names =
    deck_keys_where test kind.Unit 0 names.units ++ (deck_keys_where test kind.Prefix 0 names.prefixes
    ++ (deck_keys_where test kind.Func 0 names.functions ++ deck_keys_where test kind.List 0 names.lists))
