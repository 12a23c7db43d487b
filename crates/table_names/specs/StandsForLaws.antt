-- Laws of the meanings of names.
use Rattle.std.specs.Prelude.{◌≡◌, ◌↔◌, true, false, List, ℕ, Contains}
use Rattle.expr_tree.specs.declared.word_list.WordUse.{WordUse}
use Rattle.def_entry.specs.declared.key.Key.{Key}
use Rattle.def_entry.specs.declared.key.Kind.TheVariants as kind
use Rattle.def_entry.specs.SameKeys.{is_same_key_kind}
use Rattle.def_entry.specs.Tables.{EntryTable, is_entry_present}
use Rattle.tree_eval.specs.Expansions.{Callable, Callee, EvalMeaning}
use Rattle.tree_eval.specs.Expansion.{inverted_eval_word}
use Rattle.table_names.specs.ClosedKeys.{AreClosedWords, IsClosedKey}
use Rattle.table_names.specs.Kinds.{TableNamesFitKinds}
use Rattle.table_names.specs.Meanings.{key_meaning, word_meaning}
use Rattle.table_names.specs.StandsFor.{StandsFor, WordStandsFor}

-- the key has an entry, and is a unit, a prefix or a function
pub record IsTableName (table : EntryTable) (n : Key) : Type 0 where
  pub name_has_entry : is_entry_present table n ≡ true
  pub no_list : is_same_key_kind n.kind kind.List ≡ false

-- law: A key and a word stand for at most one meaning. A key that stands for a meaning has no name fault. If the table
-- fits kinds, then a name stands for a meaning exactly if it has no name fault, words have no name fault exactly if
-- each stands for a meaning, and `key_meaning` and `word_meaning` compute these meanings; a word after a `~` can only
-- stand for a function.
pub record StandsForLaw : Type 0 where
  pub one_meaning : (table : EntryTable) (n : Key) (m k : EvalMeaning) → StandsFor table n m → StandsFor table n k
      → m ≡ k
  pub one_word : (table : EntryTable) (u : WordUse) (m k : EvalMeaning) → WordStandsFor table u m
      → WordStandsFor table u k
      → m ≡ k
  pub name_is_closed : (table : EntryTable) (n : Key) (m : EvalMeaning) → StandsFor table n m → IsClosedKey table n
  pub closed_exactly : (table : EntryTable) → TableNamesFitKinds table → (n : Key) → IsTableName table n
      → IsClosedKey table n ↔ StandsFor table n (key_meaning table n)
  pub words : (table : EntryTable) → TableNamesFitKinds table → (words : List WordUse)
      → AreClosedWords table words ↔ ((u : WordUse) → Contains words u → WordStandsFor table u (word_meaning table u))
  pub inverse : (table : EntryTable) → TableNamesFitKinds table → (w : List ℕ) (m : EvalMeaning)
      → WordStandsFor table (inverted_eval_word w) m → (f : Callable) × (m ≡ Callee f)
