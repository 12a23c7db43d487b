-- The meanings of closed words and keys.
use Rattle.std.specs.Prelude.{◌≡◌, ℕ, zero, suc, List, [], ◌∷◌, map, length, Option, Some, None}
use Rattle.expr_tree.specs.declared.word_list.WordUse.{WordUse}
use Rattle.expr_tree.specs.Syntax.{Syntax}
use Rattle.def_entry.specs.declared.key.Key.{Key}
use Rattle.def_entry.specs.Entries.{Entry}
use Rattle.def_entry.specs.Tables.{EntryTable, entry_at}
use Rattle.tree_eval.specs.declared.outcome.Outcome.{Outcome}
use Rattle.tree_eval.specs.Entries.{evaluated_meaning}
use Rattle.tree_eval.specs.Expansions.{Dimensionless, EvalMeaning, Expanded, One, Two}
use Rattle.tree_eval.specs.Expansion.{expand}
use Rattle.tree_eval.specs.Outcomes.{outcome_of_eval_meaning}
use Rattle.table_names.specs.ClosedKeys.{IsClosedKey}
use Rattle.table_names.specs.Leads.{table_word_targets}

-- the meaning 1, for names that stand for nothing
abbrev pub one_meaning : EvalMeaning
one_meaning = One Dimensionless

-- the meaning of targets: of one target its own meaning, of two targets that of a prefix and a unit
abbrev pub targets_meaning : List EvalMeaning → EvalMeaning
targets_meaning (m ∷ []) = m
targets_meaning (One x ∷ One y ∷ []) = Two x y
targets_meaning _ = one_meaning

abbrev pub entry_meaning : (WordUse → EvalMeaning) → List ℕ → Option Entry → EvalMeaning
entry_meaning means name None = one_meaning
entry_meaning means name (Some e) = evaluated_meaning means name e.what

module _ (table : EntryTable) where
  -- the meaning of a word, given the meanings of keys
  abbrev pub word_meaning_by : (Key → EvalMeaning) → WordUse → EvalMeaning
  word_meaning_by of_key u = targets_meaning (map of_key (table_word_targets table u))

  -- the meaning of a key, if names are nested at most this deep
  abbrev pub meaning_within : ℕ → Key → EvalMeaning
  meaning_within zero n = one_meaning
  meaning_within (suc depth) n = entry_meaning (word_meaning_by (meaning_within depth)) n.name (entry_at table n)

  -- the meaning of a key; closed names are nested at most as deep as the table has keys
  abbrev pub key_meaning : Key → EvalMeaning
  key_meaning = meaning_within (length table)

  abbrev pub word_meaning : WordUse → EvalMeaning
  word_meaning = word_meaning_by key_meaning

  -- a tree with its words replaced by their meanings
  abbrev pub expansion : Syntax → Expanded
  expansion e = expand word_meaning e

  -- the outcome of a key
  abbrev pub outcome : Key → Outcome
  outcome n = outcome_of_eval_meaning (key_meaning n)

-- law: the meaning of a closed key is that of its entry, in which each word has the meaning of its targets
abbrev pub ClosedMeaningLaw : Type 0
ClosedMeaningLaw = (table : EntryTable) (n : Key) → IsClosedKey table n
    → key_meaning table n ≡ entry_meaning (word_meaning table) n.name (entry_at table n)
