-- The keys that an edit changes.
use Rattle.std.specs.Prelude.{◌≡◌, ◌++◌, Bool, true, false, not, List, [], ◌∷◌, Option, Some, None, if◌then◌else◌, ⊤}
use Rattle.std.specs.List.{filter}
use Rattle.std.specs.Str.{bytes_eq}
use Rattle.def_entry.specs.declared.key.Key.{Key}
use Rattle.def_entry.specs.Entries.{Entry}
use Rattle.def_entry.specs.SameKeys.{is_entry_key_among}
use Rattle.def_entry.specs.Tables.{AreKeysOfChangedEntries}
use Rattle.deck.specs.Decks.{DeckContents}
use Rattle.deck.specs.Tables.{EntryTable, entry_at, keys_of_entries, table_of_deck}

-- no key occurs in the list twice
abbrev pub AreDeckKeysOnce : List Key → Type 0
AreDeckKeysOnce [] = ⊤
AreDeckKeysOnce (k ∷ keys) = (is_entry_key_among keys k ≡ false) × AreDeckKeysOnce keys

-- the keys whose entries differ between two tables, each once
pub record IsDeckTableChange (before after : EntryTable) (keys : List Key) : Type 0 where
  pub lists_changed_keys : AreKeysOfChangedEntries before after keys
  pub keys_distinct : AreDeckKeysOnce keys

-- the keys that an edit changes, each once
abbrev pub IsEditChange : DeckContents → DeckContents → List Key → Type 0
IsEditChange before after keys = IsDeckTableChange (table_of_deck before) (table_of_deck after) keys

-- two entries of a key have the same text, or both are absent
abbrev pub is_same_deck_entry : Option Entry → Option Entry → Bool
is_same_deck_entry None None = true
is_same_deck_entry (Some e) (Some f) = bytes_eq e.text f.text
is_same_deck_entry _ _ = false

-- each key of a list once, at its last place
abbrev pub each_deck_key_once : List Key → List Key
each_deck_key_once [] = []
each_deck_key_once (k ∷ keys) = if is_entry_key_among keys k then each_deck_key_once keys else k ∷ each_deck_key_once
    keys

-- the keys whose entries in the two tables have different texts
abbrev pub keys_changed_by_edit : EntryTable → EntryTable → List Key
keys_changed_by_edit before after =
    filter (λ k. not (is_same_deck_entry (entry_at before k) (entry_at after k)))
    (each_deck_key_once (keys_of_entries before ++ keys_of_entries after))

-- law: `keys_changed_by_edit` are the keys that an edit changes
abbrev pub KeysChangedByEditLaw : Type 0
KeysChangedByEditLaw = (before after : DeckContents)
    → IsEditChange before after (keys_changed_by_edit (table_of_deck before) (table_of_deck after))
