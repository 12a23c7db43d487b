-- The data that are stored of a function besides its entry.
use Rattle.std.specs.Prelude.{◌≡◌, ◌+◌, ℕ, List, Some, length}
use Rattle.def_entry.specs.Entries as what
use Rattle.def_entry.specs.Entries.{Entry, What}
use Rattle.def_entry.specs.declared.key.Key.{Key}
use Rattle.def_entry.specs.Tables.{EntryTable, entry_at}
use Rattle.expr_tree.specs.declared.word_list.WordUse.{WordUse}
use Rattle.expr_tree.specs.Words.{words_in}
use Rattle.tree_eval.specs.declared.holder.Part.{Part}
use Rattle.tree_eval.specs.declared.holder.Part.TheVariants as part
use Rattle.tree_eval.specs.Entries.{eval_tree_words_if, rank_of_meaning}
use Rattle.tree_eval.specs.Expansions.{EvalMeaning}
use Rattle.live_table.specs.declared.callee.Callee.{Callee}
use Rattle.live_table.specs.declared.callee.PartStarts.{PartStarts}
use Rattle.table_names.specs.Words.{table_words_of_key, table_words_of_what}

-- the place at which the words of a tree begin among those of its entry: the in unit, the out unit, the forward tree
-- and the inverse follow one another; any other tree is the only one
abbrev pub node_part_start : What → Part → ℕ
node_part_start (what.Function d) part.OutUnit = length (eval_tree_words_if d.in_unit)
node_part_start (what.Function d) part.Forward = length (eval_tree_words_if d.in_unit) + length
    (eval_tree_words_if d.out_unit)
node_part_start (what.Function d) part.Inverse =
    length (eval_tree_words_if d.in_unit) + length (eval_tree_words_if d.out_unit) + length (words_in d.forward)
node_part_start _ _ = 0

-- the start of a tree, as it is stored
abbrev pub cached_part_start : PartStarts → Part → ℕ
cached_part_start starts part.OutUnit = starts.out_unit
cached_part_start starts part.Forward = starts.forward
cached_part_start starts part.Inverse = starts.inverse
cached_part_start starts _ = 0

-- the trees of an entry begin at these starts
abbrev pub HasNodePartStarts : What → Callee → Type 0
HasNodePartStarts what callee = (p : Part) → cached_part_start callee.starts p ≡ node_part_start what p

-- the stored rank is that of the meaning of the key, or 0 if it is not a function
abbrev pub HasNodeRank : EvalMeaning → Callee → Type 0
HasNodeRank meaning callee = callee.rank ≡ rank_of_meaning meaning

-- these are the words of an entry, and its trees begin at these starts
pub record AreNodeEntryWords (what : What) (us : List WordUse) (begins : PartStarts) : Type 0 where
  pub words : us ≡ table_words_of_what what
  pub part_starts : (p : Part) → cached_part_start begins p ≡ node_part_start what p

-- these are the words of the entry of a key, and its trees begin at these starts
pub record AreNodeKeyWords (table : EntryTable) (k : Key) (us : List WordUse) (begins : PartStarts) : Type 0 where
  pub words : us ≡ table_words_of_key table k
  pub part_starts : (e : Entry) → entry_at table k ≡ Some e → (p : Part)
      → cached_part_start begins p ≡ node_part_start e.what p
