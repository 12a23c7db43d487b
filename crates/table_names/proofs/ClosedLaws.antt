-- The laws of closed words and keys.
use Rattle.std.proofs.Common.{◌≡◌, suc, true, false, List, [], ◌∷◌, ◌++◌, length, Contains, None, subst}
use Rattle.std.proofs.lemmas.Bool.{false_from_ne_true}
use Rattle.expr_tree.specs.declared.word_list.WordUse.{WordUse}
use Rattle.def_entry.specs.declared.key.Key.{Key}
use Rattle.def_entry.specs.SameKeys.{is_entry_key_among}
use Rattle.def_entry.specs.Tables.{EntryTable, is_entry_present}
use Rattle.table_names.specs.ClosedKeys.{AreClosedWords, IsClosedKey, TableWordLeadsInto}
use Rattle.table_names.specs.ClosedLaws.{ClosedWordLaw}
use Rattle.table_names.specs.FaultLaws.{IsNameFaultPath}
use Rattle.table_names.specs.Faults.{words_fault}
use Rattle.table_names.specs.Leads.{TableNameReaches, TableWordsReach}
use Rattle.table_names.specs.Words.{table_words_of_key}
use Rattle.table_names.proofs.EndingWays.{EndsWithin, ends_reached, into_others, no_loop}
use Rattle.table_names.proofs.KeyLists.{key_off_longer_name_fault_path, table_key_among_is_member}
use Rattle.table_names.proofs.Paths.{closed_ending, closed_key_ending, ending_closed, ending_key_closed}
use Rattle.table_names.proofs.Paths.{key_words_closed, longer, no_fault, words_closed_key}
use Rattle.table_names.proofs.ReachedKeys.{table_name_reach_is_transitive}

module _ (table : EntryTable) where
  closed_words_lead : (words : List WordUse) → AreClosedWords table words → (u : WordUse) → Contains words u
      → TableWordLeadsInto table (IsClosedKey table) u
  closed_words_lead words e u i =
      into_others table (EndsWithin table (length table)) (IsClosedKey table) u
      (λ n t. ending_key_closed table (length table) n) (closed_ending table words e u i)

  leading_words_close :
      (words : List WordUse) → ((u : WordUse) → Contains words u → TableWordLeadsInto table (IsClosedKey table) u)
      → AreClosedWords table words
  leading_words_close words h =
      ending_closed table (suc (length table)) words (λ u i.
      into_others table (IsClosedKey table) (EndsWithin table (suc (length table))) u (λ n t. closed_key_ending table n)
      (h u i))

  below : (words : List WordUse) → AreClosedWords table words → (n : Key) → TableWordsReach table words n
      → IsClosedKey table n
  below words e n r =
      ending_key_closed table (length table) n (ends_reached table r (length table) (closed_ending table words e))

  pub no_cycle : (n : Key) → IsClosedKey table n → TableNameReaches table n n → ⊥
  no_cycle n e r = no_loop table (suc (length table)) n (closed_key_ending table n e) r

  any_path :
      (path : List Key) (n : Key) → IsNameFaultPath table path → is_entry_present table n ≡ true → IsClosedKey table n
      → ((k : Key) → Contains path k → TableNameReaches table k n) → words_fault table (path ++ n ∷ [])
      (table_words_of_key table n) ≡ None
  any_path path n is there e leads =
      no_fault table (length table) (path ++ n ∷ []) (table_words_of_key table n)
      (closed_ending table (table_words_of_key table n) (key_words_closed table n e))
      (longer table path n is (off n (λ i. leads n i)) there)
      (λ m r. key_off_longer_name_fault_path path n m (off m (λ i. table_name_reach_is_transitive r (leads m i)))
      (λ q. no_cycle n e (subst (λ (x : Key). TableNameReaches table n x) q r)))
    where
      -- a key is not on the path if `n` would then reach itself
      off : (m : Key) → (Contains path m → TableNameReaches table n n) → is_entry_key_among path m ≡ false
      off m back = false_from_ne_true (is_entry_key_among path m)
          (λ on. no_cycle n e (back (table_key_among_is_member path m on)))

-- the law of closed names
pub closed_word_law : ClosedWordLaw
closed_word_law = record {
  words = λ table words. (closed_words_lead table words, leading_words_close table words);
  key = λ table n. (key_words_closed table n, words_closed_key table n);
  reached_words_closed = below;
  no_cycle = no_cycle;
  any_path = any_path;
}
