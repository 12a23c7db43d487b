-- The ranks of the meanings of keys.
use Rattle.std.proofs.Common.{ℕ, zero, suc, ◌≤◌, List, [], ◌∷◌, map, length, Option, Some, None, arith}
use Rattle.expr_tree.specs.declared.word_list.WordUse.{WordUse}
use Rattle.def_entry.specs.declared.key.Key.{Key}
use Rattle.def_entry.specs.Entries as what
use Rattle.def_entry.specs.Entries.{Entry, What}
use Rattle.def_entry.specs.Tables.{EntryTable, entry_at}
use Rattle.expr_tree.specs.Words.{words_in}
use Rattle.table_names.specs.Leads.{table_word_targets}
use Rattle.table_names.specs.Meanings.{entry_meaning, meaning_within, targets_meaning, word_meaning_by}
use Rattle.tree_eval.specs.Entries.{evaluated_alias, evaluated_meaning, function_eval_words, greatest_rank}
use Rattle.tree_eval.specs.Entries.{rank_of_meaning}
use Rattle.tree_eval.specs.Expansions.{Callee, EvalMeaning, One, Two}
use Rattle.tree_eval.specs.Expansion.{inverted_eval_word}
use Rattle.table_names.specs.RankLaws.{NumberedNameRankLaw}

-- a meaning has at most this rank
abbrev IsWithin : ℕ → EvalMeaning → Type 0
IsWithin depth m = rank_of_meaning m ≤ depth

-- an alias has a rank one above that of its target
numbered_alias_rank_is_within : (depth : ℕ) (name : List ℕ) (m : EvalMeaning) → IsWithin depth m
    → IsWithin (suc depth) (evaluated_alias name m)
numbered_alias_rank_is_within depth name (One x) h = omega arith
numbered_alias_rank_is_within depth name (Two x y) h = omega arith
numbered_alias_rank_is_within depth name (Callee f) h = omega (arith, h)

-- if no word has a rank above a bound, the greatest of their ranks is within the bound
numbered_words_rank_is_within :
    (depth : ℕ) (means : WordUse → EvalMeaning) (words : List WordUse) → ((u : WordUse) → IsWithin depth (means u))
    → greatest_rank means words ≤ depth
numbered_words_rank_is_within depth means [] h = omega arith
numbered_words_rank_is_within depth means (u ∷ us) h =
    let a : rank_of_meaning (means u) ≤ depth = h u in
    let b : greatest_rank means us ≤ depth = numbered_words_rank_is_within depth means us h in
    omega arith

-- the meaning of a definition has a rank at most one above that of its words
numbered_definition_rank_is_within :
    (depth : ℕ) (means : WordUse → EvalMeaning) (name : List ℕ) (w : What) → ((u : WordUse) → IsWithin depth (means u))
    → IsWithin (suc depth) (evaluated_meaning means name w)
numbered_definition_rank_is_within depth means name what.Primitive h = omega arith
numbered_definition_rank_is_within depth means name what.Dimensionless h = omega arith
numbered_definition_rank_is_within depth means name (what.Body e) h = omega arith
numbered_definition_rank_is_within depth means name (what.Function d) h =
    omega (arith, numbered_words_rank_is_within depth means (function_eval_words d) h)
numbered_definition_rank_is_within depth means name (what.Alias target) h =
    numbered_alias_rank_is_within depth name (means (inverted_eval_word target)) (h (inverted_eval_word target))
numbered_definition_rank_is_within depth means name (what.Table d) h =
    omega (arith, numbered_words_rank_is_within depth means (words_in d.unit) h)
numbered_definition_rank_is_within depth means name (what.ListOf parts) h = omega arith

-- the meaning of an optional entry has a rank at most one above that of its words
numbered_entry_rank_is_within :
    (depth : ℕ) (means : WordUse → EvalMeaning) (name : List ℕ) (o : Option Entry)
    → ((u : WordUse) → IsWithin depth (means u)) → IsWithin (suc depth) (entry_meaning means name o)
numbered_entry_rank_is_within depth means name None h = omega arith
numbered_entry_rank_is_within depth means name (Some e) h = numbered_definition_rank_is_within depth means name e.what h

-- the meaning of targets has a rank within the bound of their meanings, as a prefix and a unit are not a function
numbered_targets_rank_is_within :
    (depth : ℕ) (of_key : Key → EvalMeaning) (ks : List Key) → ((k : Key) → IsWithin depth (of_key k))
    → IsWithin depth (targets_meaning (map of_key ks))
numbered_targets_rank_is_within depth of_key [] h = omega arith
numbered_targets_rank_is_within depth of_key (k ∷ []) h = h k
numbered_targets_rank_is_within depth of_key (k ∷ l ∷ ks) h = more (of_key k) (of_key l) (map of_key ks)
  where
    more : (m n : EvalMeaning) (ms : List EvalMeaning) → IsWithin depth (targets_meaning (m ∷ n ∷ ms))
    more (One x) (One y) [] = omega arith
    more (One x) (One y) (o ∷ ms) = omega arith
    more (One x) (Two y z) ms = omega arith
    more (One x) (Callee f) ms = omega arith
    more (Two x y) n ms = omega arith
    more (Callee f) n ms = omega arith

module _ (table : EntryTable) where
  key_within : (depth : ℕ) (n : Key) → IsWithin depth (meaning_within table depth n)
  key_within zero n = omega arith
  key_within (suc depth) n =
      numbered_entry_rank_is_within depth (word_meaning_by table (meaning_within table depth)) n.name (entry_at table n)
      (λ u. numbered_targets_rank_is_within depth (meaning_within table depth) (table_word_targets table u)
      (key_within depth))

-- the law of ranks
pub numbered_name_rank_law : NumberedNameRankLaw
numbered_name_rank_law table n = key_within table (length table) n
