-- The rows of an expression and the keys that it reaches.
use Rattle.std.specs.Prelude.{◌≡◌, ◌↔◌, List, Contains}
use Rattle.std.specs.List.{IsDistinct}
use Rattle.expr_tree.specs.declared.word_list.WordUse.{WordUse}
use Rattle.def_entry.specs.declared.key.Key.{Key}
use Rattle.def_entry.specs.SameKeys.{is_same_entry_key}
use Rattle.def_entry.specs.Tables.{EntryTable}
use Rattle.table_names.specs.Leads.{TableWordsReach}
use Rattle.value_sources.specs.Rows.{AreSourceRowsOf, SourceRow, visited_keys}

-- law: the words of an expression have at most one list of rows. The keys that the rows visit are exactly those that
-- the words reach, each once. The call `rows` shows that there is such a list by returning it.
pub record SourceRowsLaw : Type 0 where
  pub one_list : (table : EntryTable) (words : List WordUse) (rows others : List SourceRow)
      → AreSourceRowsOf table words rows
      → AreSourceRowsOf table words others → rows ≡ others
  pub rows_exact : (table : EntryTable) (words : List WordUse) (rows : List SourceRow)
      → AreSourceRowsOf table words rows
      → (n : Key) → Contains (visited_keys rows) n ↔ TableWordsReach table words n
  pub each_key_once : (table : EntryTable) (words : List WordUse) (rows : List SourceRow)
      → AreSourceRowsOf table words rows
      → IsDistinct is_same_entry_key (visited_keys rows)
