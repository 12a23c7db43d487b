-- The definitions of names, found once and used again.
use Rattle.std.specs.Prelude.{◌≡◌, ℕ, List, Some, slice_get}
use Rattle.std.specs.Borrow.{Bor}
use Rattle.def_entry.specs.declared.key.Key.{Key}
use Rattle.def_entry.specs.declared.entry.What.{What as MadeWhat}
use Rattle.def_entry.specs.Entries.{Entry, What}
use Rattle.def_entry.specs.Tables.{EntryTable, entry_at}
use Rattle.def_entry.specs.Views.{entry_definition_view}
use Rattle.live_table.specs.TableContents.{node_key_at}

-- the key has an entry with this definition
abbrev pub HasLiveEntry : EntryTable → Key → What → Type 0
HasLiveEntry table k what = (e : Entry) × (entry_at table k ≡ Some e) × (e.what ≡ what)

-- the definition at the place of a number is that of its key
abbrev pub AreNodeDefinitionsFound : EntryTable → List Key → (numbers : List ℕ) → List (Bor MadeWhat) → Type 0
AreNodeDefinitionsFound table keys numbers found =
    (i n : ℕ) (what : Bor MadeWhat) → slice_get numbers i ≡ Some n → slice_get found i ≡ Some what
    → HasLiveEntry table (node_key_at keys n) (entry_definition_view what.now)
