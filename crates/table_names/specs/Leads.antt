-- The keys that words lead to, look at, and reach.
use Rattle.std.specs.Prelude.{◌≡◌, List, Contains}
use Rattle.expr_tree.specs.declared.word_list.WordUse.{WordUse}
use Rattle.def_entry.specs.declared.key.Key.{Key}
use Rattle.def_entry.specs.SameKeys.{is_entry_key_among}
use Rattle.def_entry.specs.Tables.{EntryTable, is_entry_present, keys_of_entries}
use Rattle.name_lookup.specs.Candidates.{LookupResult, candidates, found_targets}
use Rattle.name_lookup.specs.Order.{lookup_plan}
use Rattle.name_lookup.specs.Plans.{run_lookup_plan}
use Rattle.table_names.specs.Words.{table_words_of_key}

-- the lookup of a word in a table: its first candidate whose keys all have entries
abbrev pub table_word_lookup : EntryTable → WordUse → LookupResult
table_word_lookup table u = found_targets (is_entry_present table) (candidates u.kind u.text)

-- law: the plan by which the code looks up a word among the keys of the entries has the same result
abbrev pub TableNameLookupLaw : Type 0
TableNameLookupLaw = (table : EntryTable) (u : WordUse) → run_lookup_plan (is_entry_key_among (keys_of_entries table))
    (lookup_plan u.kind u.text) ≡ table_word_lookup table
    u

-- the keys that a word refers to
abbrev pub table_word_targets : EntryTable → WordUse → List Key
table_word_targets table u = (table_word_lookup table u).targets

-- the keys that the lookup of a word looks at, including absent ones
abbrev pub table_word_looked_keys : EntryTable → WordUse → List Key
table_word_looked_keys table u = (table_word_lookup table u).keys_looked_at

-- one of the words leads to the key
abbrev pub TableWordsLeadTo : EntryTable → List WordUse → Key → Type 0
TableWordsLeadTo table words n = (u : WordUse) × Contains words u × Contains (table_word_targets table u) n

-- words reach the keys that they lead to, and the keys that the words of those keys reach
pub data TableWordsReach (table : EntryTable) : List WordUse → Key → Type 0 where
  at_once : {words : List WordUse} {n : Key} → TableWordsLeadTo table words n → TableWordsReach table words n
  further : {words : List WordUse} {n m : Key} → TableWordsLeadTo table words n
      → TableWordsReach table (table_words_of_key table n) m
      → TableWordsReach table words m

-- the key n reaches m by one or more steps
abbrev pub TableNameReaches : EntryTable → Key → Key → Type 0
TableNameReaches table n m = TableWordsReach table (table_words_of_key table n) m

-- a word of the key n looks at k
abbrev pub TableNameLooksAt : EntryTable → Key → Key → Type 0
TableNameLooksAt table n k = (u : WordUse) × Contains (table_words_of_key table n) u × Contains
    (table_word_looked_keys table u) k
