-- The keys that words reach.
use Rattle.std.proofs.Common.{◌≡◌, ℕ, zero, suc, true, List, ◌∷◌, length, Contains, flat_map, refl, sym, subst, inl}
use Rattle.std.proofs.Common.{inr}
use Rattle.expr_tree.specs.declared.word_list.WordUse.{WordUse}
use Rattle.def_entry.specs.declared.key.Key.{Key}
use Rattle.def_entry.specs.Tables.{EntryTable, is_entry_present}
use Rattle.table_names.specs.Leads.{TableWordsLeadTo, TableWordsReach, at_once, further, table_word_targets}
use Rattle.table_names.specs.Reach.{TableNameReachLaw, reach_within}
use Rattle.table_names.specs.Words.{table_words_of_key}
use Rattle.table_names.proofs.EndingWays.{AreEnding, ends_below}
use Rattle.table_names.proofs.Lookups.{target_present}
use Rattle.table_names.proofs.Paths.{closed_ending}
use Rattle.general_lemmas.proofs.Members.{no_member, member_first, member_later, member_cases, flat_member, flat_cases}

-- the keys that the words of a reached key reach are reached
pub table_name_reach_is_transitive :
    {table : EntryTable} {words : List WordUse} {n m : Key}
    → TableWordsReach table words n → TableWordsReach table (table_words_of_key table n) m
    → TableWordsReach table words m
table_name_reach_is_transitive (at_once l) r = further l r
table_name_reach_is_transitive (further l q) r = further l (table_name_reach_is_transitive q r)

-- a reached key has an entry
pub reached_table_name_is_present : {table : EntryTable} {words : List WordUse} {n : Key}
    → TableWordsReach table words n
    → is_entry_present table n ≡ true
reached_table_name_is_present {table} (at_once l) = target_present table l.0 _ l.2
reached_table_name_is_present (further l r) = reached_table_name_is_present r

module _ (table : EntryTable) where
  -- a target, followed by the keys that its words reach
  abbrev target_list : ℕ → Key → List Key
  target_list k n = n ∷ reach_within table k (table_words_of_key table n)

  abbrev word_list : ℕ → WordUse → List Key
  word_list k u = flat_map (target_list k) (table_word_targets table u)

  by_target :
      (k : ℕ) (words : List WordUse) (n m : Key)
      → TableWordsLeadTo table words n → Contains (target_list k n) m → Contains (reach_within table (suc k) words) m
  by_target k words n m (u, i, t) j =
      flat_member (word_list k) words u m i (flat_member (target_list k) (table_word_targets table u) n m t j)

  in_list :
      {words : List WordUse} {m : Key} → TableWordsReach table words m → (k : ℕ) → AreEnding table k words
      → Contains (reach_within table k words) m
  in_list (at_once l) zero h = absurd (ends_below table 0 _ _ h l)
  in_list (at_once l) (suc k) h = by_target k _ _ _ l (member_first _ _ _ refl)
  in_list (further l r) zero h = absurd (ends_below table 0 _ _ h l)
  in_list (further l r) (suc k) h =
      by_target k _ _ _ l (member_later _ _ _ (in_list r k (ends_below table (suc k) _ _ h l)))

  from_list : (k : ℕ) (words : List WordUse) (m : Key) → Contains (reach_within table k words) m
      → TableWordsReach table words m
  from_list zero words m i = absurd (no_member m i)
  from_list (suc k) words m i =
      let u : (u : WordUse) × Contains words u × Contains (word_list k u) m = flat_cases (word_list k) words m i in
      let n : (n : Key) × Contains (table_word_targets table u.0) n × Contains (target_list k n) m =
      flat_cases (target_list k) (table_word_targets table u.0) m u.2 in
      let l : TableWordsLeadTo table words n.0 = (u.0, u.1, n.1) in
      elim (member_cases m n.0 (reach_within table k (table_words_of_key table n.0)) n.2) [
        | inl e ↦ at_once (subst (λ (x : Key). TableWordsLeadTo table words x) (sym e) l)
        | inr j ↦ further l (from_list k (table_words_of_key table n.0) m j)
      ]

-- the law of reached keys
pub table_name_reach_law : TableNameReachLaw
table_name_reach_law = record {
  reached_words = λ table words e n.
      (from_list table (length table) words n, λ r. in_list table r (length table) (closed_ending table words e));
  reached_have_entries = λ table words n r. reached_table_name_is_present r;
  reached_further = λ table words n m q r. table_name_reach_is_transitive q r;
}
