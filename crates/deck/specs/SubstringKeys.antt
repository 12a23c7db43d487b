-- Keys whose names contain a text.
use Rattle.std.specs.Prelude.{◌&&◌, ◌||◌, ℕ, List, [], ◌∷◌, Bool, false, nat_eq, Option, Some, None, is_some}
use Rattle.std.specs.List.{filter, starts_with}
use Rattle.def_entry.specs.declared.key.Key.{Key}
use Rattle.deck_lines.specs.Names.{KeyNumberNames, key_numbered}
use Rattle.deck_lines.specs.declared.key_number.KeyNumber.{KeyNumber}
use Rattle.deck.specs.KeyLists.{deck_table_keys}
use Rattle.deck.specs.LastPlaces.{last_definition_place_at}
use Rattle.deck.specs.Tables.{EntryTable}
use Rattle.deck.specs.declared.places.last_places.LastPlaces.{LastPlaces}

-- the text is a substring of the bytes
abbrev pub has_substring : (bytes text : List ℕ) → Bool
has_substring [] text = starts_with nat_eq [] text
has_substring (b ∷ bytes) text = starts_with nat_eq (b ∷ bytes) text || has_substring bytes text

-- the keys of a table whose names contain the text, in order
abbrev pub deck_keys_holding_text : List ℕ → EntryTable → List Key
deck_keys_holding_text text table = filter (λ k. has_substring k.name text) (deck_table_keys table)

-- a key is present, and its name contains the text
abbrev pub is_deck_key_holding_text : List ℕ → Option Key → Bool
is_deck_key_holding_text text None = false
is_deck_key_holding_text text (Some k) = has_substring k.name text

-- the key with this number has a last place, and its name contains the text
abbrev pub is_deck_number_holding_text : KeyNumberNames → LastPlaces → List ℕ → KeyNumber → Bool
is_deck_number_holding_text names last text n = is_some (last_definition_place_at last n) && is_deck_key_holding_text
    text (key_numbered names n)
