-- A characterization of the name fault that does not depend on the bound in its definition.
use Rattle.std.specs.Prelude.{◌≡◌, ◌≤◌, true, false, List, [], ◌∷◌, ◌++◌, length, Option}
use Rattle.std.specs.List.{IsDistinct}
use Rattle.expr_tree.specs.declared.word_list.WordUse.{WordUse}
use Rattle.def_entry.specs.declared.key.Key.{Key}
use Rattle.def_entry.specs.SameKeys.{is_entry_key_among, is_same_entry_key}
use Rattle.def_entry.specs.Tables.{EntryTable, is_entry_present}
use Rattle.name_walk.specs.Lists.{first_some}
use Rattle.table_names.specs.declared.fault.NameFault.{NameFault}
use Rattle.table_names.specs.Faults.{word_fault, words_fault}
use Rattle.table_names.specs.Words.{table_words_of_key}

-- a path consists of distinct keys that all have an entry
pub record IsNameFaultPath (table : EntryTable) (path : List Key) : Type 0 where
  pub distinct : IsDistinct is_same_entry_key path
  pub path_has_entries : (k : Key) → is_entry_key_among path k ≡ true → is_entry_present table k ≡ true

-- a function gives the fault of words after a path: the first of their faults in order, and for a target the fault of
-- the words of its entry after the path extended by the target
abbrev pub IsWordsNameFault : EntryTable → (List Key → List WordUse → Option NameFault) → Type 0
IsWordsNameFault table f = (path : List Key) (words : List WordUse) → IsNameFaultPath table path
    → f path words ≡ first_some (word_fault table (λ longer n. f longer (table_words_of_key table n)) path) words

-- law: `words_fault table` is such a function, and it is the only one
pub record WordsNameFaultLaw : Type 0 where
  pub first_fault_is : (table : EntryTable) → IsWordsNameFault table (words_fault table)
  pub fault_is_only : (table : EntryTable) (f : List Key → List WordUse → Option NameFault) → IsWordsNameFault table f
      → (path : List Key) (words : List WordUse) → IsNameFaultPath table path
      → f path words ≡ words_fault table path words

-- law: the empty list is a path, a path can be extended by each present key that is not on it, and no path is longer
-- than the table
pub record NameFaultPathLaw : Type 0 where
  pub empty_key_path : (table : EntryTable) → IsNameFaultPath table []
  pub longer_key_path : (table : EntryTable) (path : List Key) (n : Key) → IsNameFaultPath table path
      → is_entry_key_among path n ≡ false → is_entry_present table n ≡ true → IsNameFaultPath table (path ++ n ∷ [])
  pub key_path_bound : (table : EntryTable) (path : List Key) → IsNameFaultPath table path → length path ≤ length table
