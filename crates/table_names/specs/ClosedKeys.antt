-- Words and keys without a name fault.
use Rattle.std.specs.Prelude.{◌≡◌, ◌≢◌, false, List, [], Contains, None}
use Rattle.expr_tree.specs.declared.word_list.WordUse.{WordUse}
use Rattle.expr_tree.specs.Names.{is_refused}
use Rattle.def_entry.specs.declared.key.Key.{Key}
use Rattle.def_entry.specs.Tables.{EntryTable}
use Rattle.table_names.specs.Faults.{key_fault, name_fault}
use Rattle.table_names.specs.Leads.{table_word_targets}

-- words without a name fault
abbrev pub AreClosedWords : EntryTable → List WordUse → Type 0
AreClosedWords table words = name_fault table words ≡ None

-- a key without a name fault
abbrev pub IsClosedKey : EntryTable → Key → Type 0
IsClosedKey table n = key_fault table n ≡ None

-- a word is not a refused name and has targets, all of which have this property
pub record TableWordLeadsInto (table : EntryTable) (Holds : Key → Type 0) (u : WordUse) : Type 0 where
  pub not_refused : is_refused u.text ≡ false
  pub has_targets : table_word_targets table u ≢ []
  pub into : (n : Key) → Contains (table_word_targets table u) n → Holds n
