-- The targets and the looked-at keys of a word in a table.
use Rattle.std.proofs.Common.{sym, ◌≡◌, ◌∙◌, true, Contains}
use Rattle.std.proofs.lemmas.Map.Made.{is_some-lookup}
use Rattle.expr_tree.specs.declared.word_list.WordUse.{WordUse}
use Rattle.def_entry.specs.declared.key.Key.{Key}
use Rattle.def_entry.specs.SameKeys.{is_entry_key_among, is_same_entry_key}
use Rattle.def_entry.specs.Tables.{EntryTable, is_entry_present, keys_of_entries}
use Rattle.name_lookup.proofs.Candidates.{candidates_law}
use Rattle.name_lookup.proofs.Plans.{same_answers, targets_are_present}
use Rattle.table_names.specs.Leads.{TableNameLookupLaw, table_word_looked_keys, table_word_lookup, table_word_targets}

module _ (table : EntryTable) (u : WordUse) where
  -- a target has an entry
  pub target_present : (n : Key) → Contains (table_word_targets table u) n → is_entry_present table n ≡ true
  target_present n i = (targets_are_present (is_entry_present table) u.kind u.text n i).1

  -- a target is a looked-at key
  pub target_looked : (n : Key) → Contains (table_word_targets table u) n → Contains (table_word_looked_keys table u) n
  target_looked n i = (targets_are_present (is_entry_present table) u.kind u.text n i).0

-- tables that agree on the looked-at keys have the same lookup of the word
pub table_word_lookup_stays :
    (before after : EntryTable) (u : WordUse)
    → ((k : Key) → Contains (table_word_looked_keys before u) k → is_entry_present before k ≡ is_entry_present after k)
    → table_word_lookup before u ≡ table_word_lookup after u
table_word_lookup_stays before after u h = same_answers (is_entry_present before) (is_entry_present after) u.kind u.text
    h

-- the law of lookup by the keys of the entries
pub table_name_lookup_law : TableNameLookupLaw
table_name_lookup_law table u =
    candidates_law (is_entry_key_among (keys_of_entries table)) u.kind u.text
    ∙ same_answers (is_entry_key_among (keys_of_entries table)) (is_entry_present table) u.kind u.text
    (λ k i. sym (is_some-lookup (is_same_entry_key k) table))
