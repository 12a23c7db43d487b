-- The nesting depth of functions.
use Rattle.std.specs.Prelude.{◌≤◌, length}
use Rattle.def_entry.specs.declared.key.Key.{Key}
use Rattle.def_entry.specs.Tables.{EntryTable}
use Rattle.table_names.specs.Meanings.{key_meaning}
use Rattle.tree_eval.specs.Entries.{rank_of_meaning}

-- law: the rank of the meaning of a key is at most the number of entries of the table
abbrev pub NumberedNameRankLaw : Type 0
NumberedNameRankLaw = (table : EntryTable) (n : Key) → rank_of_meaning (key_meaning table n) ≤ length table
