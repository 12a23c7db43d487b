-- Tables of definitions.
use Rattle.std.specs.Prelude.{◌≡◌, ◌↔◌, List, Bool, true, map, Option}
use Rattle.std.specs.Map.{lookup}
use Rattle.std.specs.Option.{is_some}
use Rattle.def_entry.specs.declared.key.Key.{Key}
use Rattle.def_entry.specs.Entries.{Entry}
use Rattle.def_entry.specs.SameKeys.{is_entry_key_among, is_same_entry_key}

-- keys with their entries, the last one first: a later entry shadows those of the same key before it
abbrev pub EntryTable : Type 0
EntryTable = List (Key × Entry)

-- the entry of a key
abbrev pub entry_at : EntryTable → Key → Option Entry
entry_at table k = lookup (is_same_entry_key k) table

-- the key has an entry
abbrev pub is_entry_present : EntryTable → Key → Bool
is_entry_present table k = is_some (entry_at table k)

-- the keys of all entries, including shadowed ones
abbrev pub keys_of_entries : EntryTable → List Key
keys_of_entries table = map (λ e. e.0) table

-- a key is not in this list if and only if its entry is the same before and after
abbrev pub AreKeysOfChangedEntries : EntryTable → EntryTable → List Key → Type 0
AreKeysOfChangedEntries before after keys = (k : Key) → (is_entry_key_among keys k ≡ true → ⊥) ↔
    (entry_at before k ≡ entry_at after k)
