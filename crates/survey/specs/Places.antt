-- What keys give, from the places of the lines that define them.
use Rattle.std.specs.Prelude.{ℕ, List, [], Option, Some, None, if◌then◌else◌}
use Rattle.def_entry.specs.declared.key.Key.{Key}
use Rattle.def_entry.specs.declared.key.Kind.TheVariants as kind
use Rattle.def_entry.specs.SameKeys.{is_same_key_kind}
use Rattle.deck.specs.Decks.{DeckContents}
use Rattle.deck.specs.PlacedKeys.{deck_key_at_place}

-- what a key gives, if there is a key
abbrev pub search_hits_of_key : {A : Type 0} → (Key → List A) → Option Key → List A
search_hits_of_key f None = []
search_hits_of_key f (Some k) = f k

-- a key, if it is a unit
abbrev pub conformable_unit_key : Option Key → Option Key
conformable_unit_key None = None
conformable_unit_key (Some k) = if is_same_key_kind kind.Unit k.kind then Some k else None

-- the unit that the line at a place defines, if it defines one
abbrev pub conformable_unit_at_place : DeckContents → ℕ → Option Key
conformable_unit_at_place deck place = conformable_unit_key (deck_key_at_place deck.lines place)
