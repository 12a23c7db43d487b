-- The words of entries.
use Rattle.std.specs.Prelude.{List, [], ◌∷◌, Option, Some, None}
use Rattle.expr_tree.specs.declared.word_list.WordUse.{WordUse}
use Rattle.expr_tree.specs.Words.{words_in}
use Rattle.def_entry.specs.declared.key.Key.{Key}
use Rattle.def_entry.specs.Entries as what
use Rattle.def_entry.specs.Entries.{Entry, What}
use Rattle.def_entry.specs.Tables.{EntryTable, entry_at}
use Rattle.tree_eval.specs.Entries.{function_eval_words}
use Rattle.tree_eval.specs.Expansion.{inverted_eval_word}

-- the words of the trees of an entry, one tree after another: the expression of a unit or a prefix; the in unit, the
-- out unit, the forward tree and the inverse of a function; the target of an alias, as a word after a `~`; the unit of
-- a table
abbrev pub table_words_of_what : What → List WordUse
table_words_of_what what.Primitive = []
table_words_of_what what.Dimensionless = []
table_words_of_what (what.Body e) = words_in e
table_words_of_what (what.Function d) = function_eval_words d
table_words_of_what (what.Alias target) = inverted_eval_word target ∷ []
table_words_of_what (what.Table d) = words_in d.unit
table_words_of_what (what.ListOf parts) = []

abbrev pub table_words_of_entry : Option Entry → List WordUse
table_words_of_entry None = []
table_words_of_entry (Some e) = table_words_of_what e.what

-- the words of the entry of a key, or no words if it has no entry
abbrev pub table_words_of_key : EntryTable → Key → List WordUse
table_words_of_key table n = table_words_of_entry (entry_at table n)
