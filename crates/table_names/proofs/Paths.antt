-- Paths, and closed words after a path.
use Rattle.std.proofs.Common.{◌≡◌, ◌≢◌, ℕ, zero, suc, ◌+◌, ◌-◌, ◌≤◌, true, false, List, [], ◌∷◌, ◌++◌, length, Contains}
use Rattle.std.proofs.Common.{Option, Some, None, is_some, refl, sym, ◌∙◌, subst, inl, inr, arith, length-append}
use Rattle.std.specs.List.{IsDistinct}
use Rattle.std.proofs.lemmas.Bool.{cases_Bool, cond-false}
use Rattle.std.proofs.lemmas.Map.Keys.{IsDistinct-push}
use Rattle.std.proofs.lemmas.Map.Steps.{length-le_from_keys}
use Rattle.expr_tree.specs.declared.word_list.WordUse.{WordUse}
use Rattle.expr_tree.specs.Names.{is_refused}
use Rattle.def_entry.specs.declared.key.Key.{Key}
use Rattle.def_entry.specs.Entries.{Entry}
use Rattle.def_entry.specs.SameKeys.{is_entry_key_among, is_same_entry_key}
use Rattle.def_entry.specs.Tables.{EntryTable, entry_at, is_entry_present}
use Rattle.name_walk.specs.Lists.{first_some}
use Rattle.table_names.specs.ClosedKeys.{AreClosedWords, IsClosedKey, TableWordLeadsInto}
use Rattle.table_names.specs.FaultLaws.{IsNameFaultPath, NameFaultPathLaw}
use Rattle.table_names.specs.Faults.{key_fault_within, target_fault, targets_fault, word_fault}
use Rattle.table_names.specs.Leads.{TableNameReaches, TableWordsLeadTo, TableWordsReach, at_once, further}
use Rattle.table_names.specs.Leads.{table_word_targets}
use Rattle.table_names.specs.Words.{table_words_of_entry, table_words_of_key}
use Rattle.table_names.proofs.EndingWays.{AreEnding, EndsWithin, no_loop, words_end}
use Rattle.table_names.proofs.KeyLists.{key_off_longer_name_fault_path, key_on_longer_name_fault_path}
use Rattle.table_names.proofs.KeyLists.{table_key_sameness_is_equivalence}
use Rattle.table_names.proofs.Lookups.{target_present}
use Rattle.table_names.proofs.Members.{none_first}

-- no key occurs twice in an empty path
empty_name_fault_path_is_distinct : IsDistinct is_same_entry_key []
unfolding IsDistinct
empty_name_fault_path_is_distinct = tt

-- a key without an entry has no words
absent_table_key_has_no_words : (o : Option Entry) → is_some o ≡ false → table_words_of_entry o ≡ []
absent_table_key_has_no_words None e = refl
absent_table_key_has_no_words (Some x) e = cc

module _ (table : EntryTable) where
  pub empty_is_path : IsNameFaultPath table []
  empty_is_path = record { distinct = empty_name_fault_path_is_distinct; path_has_entries = λ k e. cc }

  pub longer :
      (path : List Key) (n : Key) → IsNameFaultPath table path → is_entry_key_among path n ≡ false
      → is_entry_present table n ≡ true
      → IsNameFaultPath table (path ++ n ∷ [])
  longer path n is off there = record {
    distinct = IsDistinct-push table_key_sameness_is_equivalence path n is.distinct off;
    path_has_entries = λ k e. elim (key_on_longer_name_fault_path path n k e) [
      | inl q ↦ is.path_has_entries k q
      | inr q ↦ subst (λ (x : Key). is_entry_present table x ≡ true) (sym q) there
    ];
  }

  pub path_fits_table : (path : List Key) → IsNameFaultPath table path → length path ≤ length table
  path_fits_table path is = length-le_from_keys table_key_sameness_is_equivalence path table is.distinct
      is.path_has_entries

  -- no key that words reach is on the path
  abbrev IsClear : List Key → List WordUse → Type 0
  IsClear path words = (m : Key) → TableWordsReach table words m → is_entry_key_among path m ≡ false

  clear_below :
      (j : ℕ) (path : List Key) (words : List WordUse) (m : Key)
      → EndsWithin table j m → IsClear path words → TableWordsLeadTo table words m
      → IsClear (path ++ m ∷ []) (table_words_of_key table m)
  clear_below j path words m ends clear l q r =
      key_off_longer_name_fault_path path m q (clear q (further l r))
      (λ e. no_loop table j m ends (subst (λ (x : Key). TableNameReaches table m x) e r))

  -- words whose descents end and reach no key on the path have no fault if none is met in the entries of their targets
  words_pass :
      (j k : ℕ) (path : List Key) (words : List WordUse)
      → AreEnding table j words → IsNameFaultPath table path → IsClear path words
      → ((m : Key) → EndsWithin table j m → IsNameFaultPath table (path ++ m ∷ [])
      → IsClear (path ++ m ∷ []) (table_words_of_key table m)
      → key_fault_within table k (path ++ m ∷ []) m ≡ None)
      → first_some (word_fault table (key_fault_within table k) path) words ≡ None
  words_pass j k path words ends is clear deeper =
      none_first (word_fault table (key_fault_within table k) path) words (λ u i.
      let h : TableWordLeadsInto table (EndsWithin table j) u = ends u i in
      cond-false (is_refused u.text) _ _ h.not_refused
      ∙ targets_pass u (table_word_targets table u) h.has_targets (λ m t.
      let off : is_entry_key_among path m ≡ false = clear m (at_once (u, i, t)) in
      cond-false (is_entry_key_among path m) _ _ off
      ∙ deeper m (h.into m t) (longer path m is off (target_present table u m t))
      (clear_below j path words m (h.into m t) clear (u, i, t))))
    where
      targets_pass :
          (u : WordUse) (ns : List Key) → ns ≢ []
          → ((m : Key) → Contains ns m → target_fault table (key_fault_within table k) path m ≡ None)
          → targets_fault table (key_fault_within table k) path u ns ≡ None
      targets_pass u [] some h = absurd (some refl)
      targets_pass u (n ∷ ns) some h = none_first (target_fault table (key_fault_within table k) path) (n ∷ ns) h

  key_passes :
      (j k : ℕ) (path : List Key) (n : Key)
      → EndsWithin table j n → IsNameFaultPath table path → IsClear path (table_words_of_key table n)
      → length path + k ≡ length table + 1 → key_fault_within table k path n ≡ None
  key_passes zero k path n ends is clear room = absurd ends
  key_passes (suc j) zero path n ends is clear room =
      absurd (let l : length path ≤ length table = path_fits_table path is in omega arith)
  key_passes (suc j) (suc k) path n ends is clear room =
      words_pass j k path (table_words_of_key table n) ends is clear (λ m e p c.
      key_passes j k (path ++ m ∷ []) m e p c (omega (arith, length-append path (m ∷ []))))

  -- words whose descents end and reach no key on a path have no fault after it
  pub no_fault :
      (j : ℕ) (path : List Key) (words : List WordUse)
      → AreEnding table j words → IsNameFaultPath table path
      → ((m : Key) → TableWordsReach table words m → is_entry_key_among path m ≡ false)
      → first_some (word_fault table (key_fault_within table (length table - length path)) path) words ≡ None
  no_fault j path words ends is clear =
      let l : length path ≤ length table = path_fits_table path is in
      words_pass j (length table - length path) path words ends is clear (λ m e p c.
      key_passes j (length table - length path) (path ++ m ∷ []) m e p c (omega (arith, length-append path (m ∷ []))))

  -- every descent from closed words ends within the number of keys of the table
  pub closed_ending : (words : List WordUse) → AreClosedWords table words → AreEnding table (length table) words
  closed_ending words e =
      let z : length table - 0 ≡ length table = omega arith in
      words_end table (length table) [] words
      (subst (λ k. first_some (word_fault table (key_fault_within table k) []) words ≡ None) z e)

  pub ending_closed : (j : ℕ) (words : List WordUse) → AreEnding table j words → AreClosedWords table words
  ending_closed j words ends = no_fault j [] words ends empty_is_path (λ m r. refl)

  -- the words of a closed key are closed
  pub key_words_closed : (n : Key) → IsClosedKey table n → AreClosedWords table (table_words_of_key table n)
  key_words_closed n e =
      ending_closed (length table - 1) (table_words_of_key table n)
      (words_end table (length table - 1) (n ∷ []) (table_words_of_key table n) e)

  alone_clear : (j : ℕ) (n : Key) → EndsWithin table j n → IsClear (n ∷ []) (table_words_of_key table n)
  alone_clear j n ends m r =
      key_off_longer_name_fault_path [] n m refl
      (λ e. no_loop table j n ends (subst (λ (x : Key). TableNameReaches table n x) e r))

  pub words_closed_key : (n : Key) → AreClosedWords table (table_words_of_key table n) → IsClosedKey table n
  words_closed_key n e =
      elim (cases_Bool (is_entry_present table n)) [
        | inl there ↦ no_fault (length table) (n ∷ []) (table_words_of_key table n)
            (closed_ending (table_words_of_key table n) e)
            (longer [] n empty_is_path refl there)
            (alone_clear (suc (length table)) n (closed_ending (table_words_of_key table n) e))
        | inr absent ↦
            let none : table_words_of_key table n ≡ [] = absent_table_key_has_no_words (entry_at table n) absent in
            subst (λ ws. first_some (word_fault table (key_fault_within table (length table - 1)) (n ∷ [])) ws ≡ None)
            (sym none) refl
      ]

  pub closed_key_ending : (n : Key) → IsClosedKey table n → EndsWithin table (suc (length table)) n
  closed_key_ending n e = closed_ending (table_words_of_key table n) (key_words_closed n e)

  -- every descent from a closed key that has an entry ends within the number of keys
  pub present_key_ending : (n : Key) → is_entry_present table n ≡ true → IsClosedKey table n
      → EndsWithin table (length table) n
  present_key_ending n there e =
      let l : 1 ≤ length table = path_fits_table (n ∷ []) (longer [] n empty_is_path refl there) in
      let z : suc (length table - 1) ≡ length table = omega (arith, l) in
      subst (λ k. EndsWithin table k n) z (words_end table (length table - 1) (n ∷ []) (table_words_of_key table n) e)

  pub ending_key_closed : (j : ℕ) (n : Key) → EndsWithin table j n → IsClosedKey table n
  ending_key_closed zero n ends = absurd ends
  ending_key_closed (suc j) n ends = words_closed_key n (ending_closed j (table_words_of_key table n) ends)

-- the law of paths
pub name_fault_path_law : NameFaultPathLaw
name_fault_path_law = record {
  empty_key_path = empty_is_path;
  longer_key_path = longer;
  key_path_bound =
      path_fits_table;
}
