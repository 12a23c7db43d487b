-- The keys of a table, in order.
use Rattle.std.specs.Prelude.{◌≡◌, ℕ, List, length}
use Rattle.std.specs.FinMap as map_of
use Rattle.std.specs.List.{filter}
use Rattle.std.specs.List.Sorted.{IsStrictlySortedBy}
use Rattle.def_entry.specs.declared.key.Key.{Key}
use Rattle.def_entry.specs.declared.key.Kind.{Kind}
use Rattle.def_entry.specs.KeyOrder.{key_cmp}
use Rattle.def_entry.specs.SameKeys.{is_entry_key_among, is_same_key_kind}
use Rattle.deck.specs.Tables.{EntryTable, is_entry_present}

-- the list has exactly the keys that have an entry, in order, each once
pub record AreDeckTableKeys (table : EntryTable) (keys : List Key) : Type 0 where
  pub key_membership : (k : Key) → is_entry_key_among keys k ≡ is_entry_present table k
  pub sorted_keys : IsStrictlySortedBy key_cmp keys

-- the keys of the table, in the order of a finite map
abbrev pub deck_table_keys : EntryTable → List Key
deck_table_keys table = map_of.keys (map_of.from_entries {R = key_cmp} table)

-- law: `deck_table_keys` has exactly the keys that have an entry, in order, each once
abbrev pub DeckTableKeysLaw : Type 0
DeckTableKeysLaw = (table : EntryTable) → AreDeckTableKeys table (deck_table_keys table)

-- law: `deck_table_keys` is the only such list
abbrev pub DeckKeyListLaw : Type 0
DeckKeyListLaw = (table : EntryTable) (keys : List Key) → AreDeckTableKeys table keys → keys ≡ deck_table_keys table

-- the keys of a kind
abbrev pub deck_keys_of_kind : Kind → List Key → List Key
deck_keys_of_kind kind keys = filter (λ key. is_same_key_kind kind key.kind) keys

-- the number of keys of a kind that have an entry
abbrev pub deck_key_count : EntryTable → Kind → ℕ
deck_key_count table kind = length (deck_keys_of_kind kind (deck_table_keys table))
