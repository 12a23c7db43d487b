-- Marks of the lines of a deck: whether the key for which a line is in force was visited.
use Rattle.std.specs.Prelude.{◌≡◌, ℕ, Bool, true, false, List, Option, Some, None, get_or, if◌then◌else◌}
use Rattle.def_entry.specs.declared.key.Key.{Key}
use Rattle.def_entry.specs.SameKeys.{is_entry_key_among}
use Rattle.deck.specs.Decks.{DeckContents}
use Rattle.deck.specs.Tables.{last_definition_place}
use Rattle.value_sources.specs.Rows.{is_key_visit_skipped}

-- whether a place is marked
abbrev pub is_visit_marked : (marks : List Bool) → Option ℕ → Bool
is_visit_marked marks None = false
is_visit_marked marks (Some place) = get_or marks place false

-- the line in force for a key is marked exactly if the key was visited
abbrev pub MarksVisitedKeys : DeckContents → (marks : List Bool) → (visited : List Key) → Type 0
MarksVisitedKeys d marks visited = (n : Key)
    → is_visit_marked marks (last_definition_place d.settings d.lines n) ≡ is_entry_key_among visited n

-- the place of the key of a mention, if there is one and it is not marked
abbrev pub unmarked_mention_place : (marks : List Bool) → Option ℕ → Option ℕ
unmarked_mention_place marks None = None
unmarked_mention_place marks (Some place) = if get_or marks place false then None else Some place

-- no place, because the key of a mention needs no visit; or the place of the line in force for a key that was not
-- visited
abbrev pub IsUnvisitedKeyPlace : DeckContents → (visited : List Key) → (key : Option Key) → Option ℕ → Type 0
IsUnvisitedKeyPlace d visited key None = is_key_visit_skipped visited key ≡ true
IsUnvisitedKeyPlace d visited key (Some place) =
    (n : Key) × (key ≡ Some n) × (is_entry_key_among visited n ≡ false)
    × (last_definition_place d.settings d.lines n ≡ Some place)
