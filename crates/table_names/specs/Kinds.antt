-- The meanings of keys of each kind, and of the words that refer to them.
use Rattle.std.specs.Prelude.{◌≡◌, ◌||◌, ℕ, Bool, true, false, not, List, [], ◌∷◌, Some, Ok}
use Rattle.expr_tree.specs.declared.word_list.WordUse.{WordUse}
use Rattle.def_entry.specs.declared.key.Key.{Key}
use Rattle.def_entry.specs.declared.key.Kind.{Kind}
use Rattle.def_entry.specs.declared.key.Kind.TheVariants as kind
use Rattle.def_entry.specs.Entries as what
use Rattle.def_entry.specs.Entries.{Entry, What}
use Rattle.def_entry.specs.EntryReading.{entry_of}
use Rattle.def_entry.specs.SameKeys.{is_same_key_kind}
use Rattle.def_entry.specs.Tables.{EntryTable, entry_at, is_entry_present}
use Rattle.tree_eval.specs.Expansions.{Expanded, EvalMeaning, One, Two, Callee}
use Rattle.tree_eval.specs.Expansion.{inverted_eval_word}
use Rattle.table_names.specs.ClosedKeys.{IsClosedKey, TableWordLeadsInto}
use Rattle.table_names.specs.Leads.{table_word_targets}
use Rattle.table_names.specs.Meanings.{key_meaning, word_meaning}

-- a key of a kind may have such an entry
abbrev pub table_name_may_have : Kind → What → Bool
table_name_may_have k what.Primitive = is_same_key_kind k kind.Unit
table_name_may_have k what.Dimensionless = is_same_key_kind k kind.Unit
table_name_may_have k (what.Body e) = is_same_key_kind k kind.Unit || is_same_key_kind k kind.Prefix
table_name_may_have k (what.Function d) = is_same_key_kind k kind.Func
table_name_may_have k (what.Alias target) = is_same_key_kind k kind.Func
table_name_may_have k (what.Table d) = is_same_key_kind k kind.Func
table_name_may_have k (what.ListOf parts) = is_same_key_kind k kind.List

-- each key has an entry that its kind may have
abbrev pub TableNamesFitKinds : EntryTable → Type 0
TableNamesFitKinds table = (k : Key) (e : Entry) → entry_at table k ≡ Some e → table_name_may_have k.kind e.what ≡ true

-- a key of a kind may have such a meaning: a function means a function, any other key an expression
abbrev pub table_name_may_mean : Kind → EvalMeaning → Bool
table_name_may_mean k (One x) = not (is_same_key_kind k kind.Func)
table_name_may_mean k (Two x y) = false
table_name_may_mean k (Callee f) = is_same_key_kind k kind.Func

-- a word stands for the meaning of its one target, or of a prefix and a unit
pub data StandsForTargets (table : EntryTable) (u : WordUse) : Type 0 where
  ForOne : (n : Key) → table_word_targets table u ≡ n ∷ [] → word_meaning table u ≡ key_meaning table n
      → StandsForTargets table u
  ForTwo : (n m : Key) (x y : Expanded) → table_word_targets table u ≡ n ∷ m ∷ [] → n.kind ≡ kind.Prefix
      → m.kind ≡ kind.Unit
      → key_meaning table n ≡ One x → key_meaning table m ≡ One y → word_meaning table u ≡ Two x y
      → StandsForTargets table u

-- law: the entry of a line fits the kind of its key. In a table whose entries all fit, each closed key has a meaning
-- that fits its kind, and each closed word stands for its targets, never for nothing; after a `~` it stands for a
-- function.
pub record MeaningKindLaw : Type 0 where
  pub lines : (line : List ℕ) (k : Key) (e : Entry) → entry_of line ≡ Ok (k, e)
      → table_name_may_have k.kind e.what ≡ true
  pub keys : (table : EntryTable) → TableNamesFitKinds table → (n : Key) → is_entry_present table n ≡ true
      → IsClosedKey table n
      → table_name_may_mean n.kind (key_meaning table n) ≡ true
  pub words : (table : EntryTable) → TableNamesFitKinds table → (u : WordUse)
      → TableWordLeadsInto table (IsClosedKey table) u
      → StandsForTargets table u
  pub inverses : (table : EntryTable) → TableNamesFitKinds table → (w : List ℕ)
      → TableWordLeadsInto table (IsClosedKey table)
      (inverted_eval_word w)
      → table_name_may_mean kind.Func (word_meaning table (inverted_eval_word w)) ≡ true
