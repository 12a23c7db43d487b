-- The keys that an edit leaves unchanged.
use Rattle.std.specs.Prelude.{◌≡◌, ◌↔◌, List, Contains}
use Rattle.expr_tree.specs.declared.word_list.WordUse.{WordUse}
use Rattle.def_entry.specs.declared.key.Key.{Key}
use Rattle.def_entry.specs.Tables.{EntryTable, entry_at}
pub use Rattle.def_entry.specs.Tables.{AreKeysOfChangedEntries}
use Rattle.table_names.specs.AffectedKeys.{IsAffectedTableName}
use Rattle.table_names.specs.ClosedKeys.{IsClosedKey}
use Rattle.table_names.specs.Leads.{TableNameReaches, table_word_lookup}
use Rattle.table_names.specs.Meanings.{key_meaning, outcome}
use Rattle.table_names.specs.Words.{table_words_of_key}

-- a closed key is still closed, has the same meaning, outcome and entry, the same lookup of each of its words, and
-- reaches the same keys
pub record IsClosedAsBefore (before after : EntryTable) (n : Key) : Type 0 where
  pub still_closed : IsClosedKey after n
  pub same_meaning : key_meaning before n ≡ key_meaning after n
  pub outcome : outcome before n ≡ outcome after n
  pub entry : entry_at before n ≡ entry_at after n
  pub lookups : (u : WordUse) → Contains (table_words_of_key before n) u
      → table_word_lookup before u ≡ table_word_lookup after u
  pub reach : (m : Key) → TableNameReaches before n m ↔ TableNameReaches after n m

-- law: each closed key that an edit does not affect is as before
abbrev pub UnaffectedTableNameLaw : Type 0
UnaffectedTableNameLaw = (before after : EntryTable) (keys : List Key) → AreKeysOfChangedEntries before after keys
    → (n : Key) → IsClosedKey before n → (IsAffectedTableName before keys n → ⊥) → IsClosedAsBefore before after n
