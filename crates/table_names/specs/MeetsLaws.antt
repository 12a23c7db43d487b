-- Laws of the name fault of words.
use Rattle.std.specs.Prelude.{◌≡◌, ◌↔◌, List, [], ◌∷◌, Some, None}
use Rattle.expr_tree.specs.declared.word_list.WordUse.{WordUse}
use Rattle.def_entry.specs.declared.key.Key.{Key}
use Rattle.def_entry.specs.Tables.{EntryTable}
use Rattle.table_names.specs.declared.fault.NameFault.{NameFault}
use Rattle.table_names.specs.FaultLaws.{IsNameFaultPath}
use Rattle.table_names.specs.Faults.{key_fault, name_fault, words_fault}
use Rattle.table_names.specs.Meets.{AreClean, Meets}
use Rattle.table_names.specs.Words.{table_words_of_key}

-- law: Words meet at most one fault, and none exactly if they are clean. `words_fault` computes that fault,
-- `name_fault` the fault of the words of an expression, and `key_fault` that of a key that has an entry.
pub record MeetsLaw : Type 0 where
  pub one_fault : (table : EntryTable) (path : List Key) (words : List WordUse) (f g : NameFault)
      → IsNameFaultPath table path
      → Meets table path words f → Meets table path words g → f ≡ g
  pub no_fault_met : (table : EntryTable) (path : List Key) (words : List WordUse) → IsNameFaultPath table path
      → AreClean table path words ↔ ((f : NameFault) → Meets table path words f → ⊥)
  pub fault_met : (table : EntryTable) (path : List Key) (words : List WordUse) (f : NameFault)
      → IsNameFaultPath table path
      → (words_fault table path words ≡ Some f) ↔ Meets table path words f
  pub none_met : (table : EntryTable) (path : List Key) (words : List WordUse) → IsNameFaultPath table path
      → (words_fault table path words ≡ None) ↔ AreClean table path words
  pub name : (table : EntryTable) (words : List WordUse) (f : NameFault)
      → (name_fault table words ≡ Some f) ↔ Meets table [] words f
  pub key : (table : EntryTable) (n : Key) (f : NameFault) → IsNameFaultPath table (n ∷ [])
      → (key_fault table n ≡ Some f) ↔ Meets table (n ∷ []) (table_words_of_key table n) f
