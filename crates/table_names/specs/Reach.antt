-- The keys that words and keys reach, as lists.
use Rattle.std.specs.Prelude.{◌≡◌, ◌↔◌, ℕ, zero, suc, true, List, [], ◌∷◌, length, flat_map, Contains}
use Rattle.expr_tree.specs.declared.word_list.WordUse.{WordUse}
use Rattle.def_entry.specs.declared.key.Key.{Key}
use Rattle.def_entry.specs.Tables.{EntryTable, is_entry_present}
use Rattle.table_names.specs.ClosedKeys.{AreClosedWords}
use Rattle.table_names.specs.Leads.{TableWordsReach, table_word_looked_keys, table_word_targets}
use Rattle.table_names.specs.Words.{table_words_of_key}

module _ (table : EntryTable) where
  -- the targets of words, each followed by the keys that its own words reach, to at most this depth
  abbrev pub reach_within : ℕ → List WordUse → List Key
  reach_within zero words = []
  reach_within (suc depth) words =
      flat_map (λ u. flat_map (λ n. n ∷ reach_within depth (table_words_of_key table n)) (table_word_targets table u))
      words

  -- the keys that closed words reach
  abbrev pub reach : List WordUse → List Key
  reach words = reach_within (length table) words

  -- the keys that a closed key reaches
  abbrev pub key_reach : Key → List Key
  key_reach n = reach (table_words_of_key table n)

  -- the keys that the words of a key look at
  abbrev pub key_looked_keys : Key → List Key
  key_looked_keys n = flat_map (table_word_looked_keys table) (table_words_of_key table n)

-- law: `reach` lists exactly the keys that closed words reach. Each key that words reach has an entry, and each key
-- that a reached key reaches is reached too.
pub record TableNameReachLaw : Type 0 where
  pub reached_words : (table : EntryTable) (words : List WordUse) → AreClosedWords table words
      → (n : Key) → Contains (reach table words) n ↔ TableWordsReach table words n
  pub reached_have_entries : (table : EntryTable) (words : List WordUse) (n : Key) → TableWordsReach table words n
      → is_entry_present table n ≡ true
  pub reached_further : (table : EntryTable) (words : List WordUse) (n m : Key) → TableWordsReach table words n
      → TableWordsReach table (table_words_of_key table n) m → TableWordsReach table words m
