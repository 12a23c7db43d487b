-- Keys by their numbers, and the differences between two tables.
use Rattle.std.specs.Prelude.{◌≡◌, ◌+◌, ◌++◌, ℕ, List, [], ◌∷◌, Bool, true, not, Option, Some, option_map}
use Rattle.std.specs.Map.{lookup}
use Rattle.std.specs.Option.{option_and_then}
use Rattle.def_entry.specs.declared.key.Key.{Key}
use Rattle.def_entry.specs.declared.key.Kind.{Kind}
use Rattle.def_entry.specs.Entries.{Entry}
use Rattle.def_entry.specs.Keys.{key}
use Rattle.def_entry.specs.SameKeys.{is_same_entry_key}
use Rattle.deck_lines.specs.StoreEdits.{StoreEdit}
use Rattle.deck_lines.specs.Stores.{store_definition_at}
use Rattle.deck_lines.specs.declared.key_number.KeyNumber.{KeyNumber}
use Rattle.deck_lines.specs.declared.line.DeckLine.{DeckLine}
use Rattle.deck.specs.Changes.{is_same_deck_entry}
use Rattle.deck.specs.LastPlaces.{last_definition_place_at}
use Rattle.deck.specs.Tables.{DeckDefinitions}
use Rattle.deck.specs.declared.places.last_places.LastPlaces.{LastPlaces}

-- each definition that is found by its key is that of the line at its place
abbrev pub AreDefinitionsInPlace : List DeckLine → DeckDefinitions → Type 0
AreDefinitionsInPlace lines ds =
    (k : Key) (d : ℕ × Entry) → lookup (is_same_entry_key k) ds ≡ Some d → store_definition_at lines d.0 ≡ Some (k, d.1)

-- the entry at a place, if there is one
abbrev pub deck_entry_at_place : List DeckLine → Option ℕ → Option Entry
deck_entry_at_place lines place = option_and_then (λ p. option_map (λ d. d.1) (store_definition_at lines p)) place

-- the entries of a key before and after an edit have different texts
abbrev pub is_entry_changed_by_edit : StoreEdit → LastPlaces → LastPlaces → KeyNumber → Bool
is_entry_changed_by_edit edited before after n =
    not (is_same_deck_entry (deck_entry_at_place edited.old_lines (last_definition_place_at before n))
    (deck_entry_at_place edited.new_lines (last_definition_place_at after n)))

-- the list of a key if a test is passed, or else the empty list
abbrev pub deck_key_if : Bool → Option Key → List Key
deck_key_if true (Some k) = k ∷ []
deck_key_if _ _ = []

-- the keys of a kind whose numbers pass a test; the first of the names has this number
abbrev pub deck_keys_where : (KeyNumber → Bool) → Kind → ℕ → List (List ℕ) → List Key
deck_keys_where test kind number [] = []
deck_keys_where test kind number (name ∷ names) =
    deck_key_if (test (record { kind = kind; number = number })) (Some (key kind name))
    ++ deck_keys_where test kind (number + 1) names
