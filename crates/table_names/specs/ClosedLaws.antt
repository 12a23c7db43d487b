-- Laws of closed words and keys.
use Rattle.std.specs.Prelude.{◌≡◌, ◌↔◌, true, List, [], ◌∷◌, ◌++◌, Contains, None}
use Rattle.expr_tree.specs.declared.word_list.WordUse.{WordUse}
use Rattle.def_entry.specs.declared.key.Key.{Key}
use Rattle.def_entry.specs.Tables.{EntryTable, is_entry_present}
use Rattle.table_names.specs.ClosedKeys.{AreClosedWords, IsClosedKey, TableWordLeadsInto}
use Rattle.table_names.specs.FaultLaws.{IsNameFaultPath}
use Rattle.table_names.specs.Faults.{words_fault}
use Rattle.table_names.specs.Leads.{TableNameReaches, TableWordsReach}
use Rattle.table_names.specs.Words.{table_words_of_key}

-- law: words are closed exactly if each is accepted and leads to closed keys; a key is closed exactly if its words are.
-- The keys that closed words reach are closed, no closed key reaches itself, and a closed key has no fault after any
-- path that leads to it.
pub record ClosedWordLaw : Type 0 where
  pub words : (table : EntryTable) (words : List WordUse)
      → AreClosedWords table words ↔ ((u : WordUse) → Contains words u → TableWordLeadsInto table (IsClosedKey table) u)
  pub key : (table : EntryTable) (n : Key) → IsClosedKey table n ↔ AreClosedWords table (table_words_of_key table n)
  pub reached_words_closed : (table : EntryTable) (words : List WordUse) → AreClosedWords table words
      → (n : Key) → TableWordsReach table words n → IsClosedKey table n
  pub no_cycle : (table : EntryTable) (n : Key) → IsClosedKey table n → TableNameReaches table n n → ⊥
  pub any_path : (table : EntryTable) (path : List Key) (n : Key) → IsNameFaultPath table path
      → is_entry_present table n ≡ true → IsClosedKey table n
      → ((k : Key) → Contains path k → TableNameReaches table k n)
      → words_fault table (path ++ n ∷ []) (table_words_of_key table n) ≡ None
