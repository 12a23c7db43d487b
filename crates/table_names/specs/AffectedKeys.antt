-- The keys that an edit affects.
use Rattle.std.specs.Prelude.{◌≡◌, ◌⊎◌, ◌↔◌, ◌||◌, Bool, true, List, ◌∷◌, Contains}
use Rattle.std.specs.List.{list_any}
use Rattle.def_entry.specs.declared.key.Key.{Key}
use Rattle.def_entry.specs.SameKeys.{is_entry_key_among}
use Rattle.def_entry.specs.Tables.{EntryTable}
use Rattle.table_names.specs.ClosedKeys.{IsClosedKey}
use Rattle.table_names.specs.Leads.{TableNameLooksAt, TableNameReaches}
use Rattle.table_names.specs.Reach.{key_looked_keys, key_reach}

-- n looks at one of the keys
abbrev pub HasTableNameLooked : EntryTable → List Key → Key → Type 0
HasTableNameLooked table keys n = (k : Key) × Contains keys k × TableNameLooksAt table n k

-- n is a changed key, looks at a changed key, or reaches a key that looks at a changed key
abbrev pub IsAffectedTableName : EntryTable → List Key → Key → Type 0
IsAffectedTableName table keys n =
    Contains keys n ⊎ (HasTableNameLooked table keys n ⊎
    ((m : Key) × TableNameReaches table n m × HasTableNameLooked table keys m))

-- whether n looks at one of the keys, computed
abbrev pub has_table_name_looked : EntryTable → List Key → Key → Bool
has_table_name_looked table keys n = list_any (is_entry_key_among keys) (key_looked_keys table n)

abbrev pub is_affected_table_name : EntryTable → List Key → Key → Bool
is_affected_table_name table keys n = is_entry_key_among keys n || list_any (has_table_name_looked table keys)
    (n ∷ key_reach table n)

-- law: `is_affected_table_name` computes `IsAffectedTableName` for a closed key, and each key that reaches an affected
-- key is affected
pub record AffectedTableNameLaw : Type 0 where
  pub affected_exactly : (table : EntryTable) (keys : List Key) (n : Key) → IsClosedKey table n
      → (is_affected_table_name table keys n ≡ true) ↔ IsAffectedTableName table keys n
  pub users : (table : EntryTable) (keys : List Key) (n m : Key) → TableNameReaches table n m
      → IsAffectedTableName table keys m
      → IsAffectedTableName table keys n
