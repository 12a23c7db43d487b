-- The keys that an edit leaves unchanged.
use Rattle.std.proofs.Common.{◌≡◌, ◌≢◌, ◌↔◌, ℕ, zero, suc, List, [], length, map, Contains, is_some}
use Rattle.std.proofs.Common.{sym, ◌∙◌, ap, subst, inl, inr}
use Rattle.expr_tree.specs.declared.word_list.WordUse.{WordUse}
use Rattle.def_entry.specs.declared.key.Key.{Key}
use Rattle.def_entry.specs.Tables.{EntryTable, entry_at}
use Rattle.name_lookup.specs.Plans.{LookupResult}
use Rattle.tree_eval.specs.Outcomes.{outcome_of_eval_meaning}
use Rattle.table_names.specs.AffectedKeys.{IsAffectedTableName}
use Rattle.table_names.specs.ClosedKeys.{IsClosedKey, TableWordLeadsInto}
use Rattle.table_names.specs.Edits.{AreKeysOfChangedEntries, IsClosedAsBefore, UnaffectedTableNameLaw}
use Rattle.table_names.specs.Leads.{TableNameReaches, TableWordsLeadTo, TableWordsReach, at_once, further}
use Rattle.table_names.specs.Leads.{table_word_lookup, table_word_targets}
use Rattle.table_names.specs.Meanings.{entry_meaning, key_meaning, meaning_within, targets_meaning, word_meaning_by}
use Rattle.table_names.specs.Words.{table_words_of_entry, table_words_of_key}
use Rattle.table_names.proofs.AffectedKeys.{users}
use Rattle.table_names.proofs.EndingWays.{AreEnding, EndsWithin}
use Rattle.table_names.proofs.KeyLists.{table_key_among_is_member}
use Rattle.table_names.proofs.Lookups.{table_word_lookup_stays}
use Rattle.table_names.proofs.Meanings.{enough, entry_meaning_by_equal_words, meaning_at}
use Rattle.table_names.proofs.Paths.{closed_key_ending, ending_key_closed}
use Rattle.general_lemmas.proofs.Members.{map_same}

module _ (before after : EntryTable) (keys : List Key) (changed : AreKeysOfChangedEntries before after keys) where
  abbrev IsUnaffected : Key → Type 0
  IsUnaffected n = IsAffectedTableName before keys n → ⊥

  entry_kept : (n : Key) → IsUnaffected n → entry_at before n ≡ entry_at after n
  entry_kept n free = (changed n).0 (λ e. free (inl (table_key_among_is_member keys n e)))

  words_kept : (n : Key) → IsUnaffected n → table_words_of_key before n ≡ table_words_of_key after n
  words_kept n free = ap table_words_of_entry (entry_kept n free)

  lookup_kept : (n : Key) → IsUnaffected n → (u : WordUse) → Contains (table_words_of_key before n) u
      → table_word_lookup before u ≡ table_word_lookup after u
  lookup_kept n free u i =
      table_word_lookup_stays before after u
      (λ k l. ap is_some ((changed k).0 (λ e. free (inr (inl (k, table_key_among_is_member keys k e, (u, i, l)))))))

  target_unaffected :
      (n : Key) → IsUnaffected n → (u : WordUse) → Contains (table_words_of_key before n) u
      → (m : Key) → Contains (table_word_targets before u) m → IsUnaffected m
  target_unaffected n free u i m t a = free (users before keys n m (at_once (u, i, t)) a)

  -- every descent from an unaffected key still ends
  ends_kept : (k : ℕ) (n : Key) → EndsWithin before k n → IsUnaffected n → EndsWithin after k n
  ends_kept zero n e free = e
  ends_kept (suc k) n e free =
      subst (AreEnding after k) (words_kept n free) (λ u i.
      let h : TableWordLeadsInto before (EndsWithin before k) u = e u i in
      let same : table_word_lookup before u ≡ table_word_lookup after u = lookup_kept n free u i in
      record {
        not_refused = h.not_refused;
        has_targets = subst (λ (f : LookupResult). f.targets ≢ []) same h.has_targets;
        into = λ m t.
            let was : Contains (table_word_targets before u) m = subst (λ (f : LookupResult). Contains f.targets m)
            (sym same) t in
            ends_kept k m (h.into m was) (target_unaffected n free u i m was);
      })

  -- an unaffected key has the same meaning
  meaning_kept : (k : ℕ) (n : Key) → EndsWithin before k n → IsUnaffected n
      → meaning_within before k n ≡ meaning_within after k n
  meaning_kept zero n e free = absurd e
  meaning_kept (suc k) n e free =
      entry_meaning_by_equal_words (word_meaning_by before (meaning_within before k))
      (word_meaning_by after (meaning_within after k))
      n.name (entry_at before n)
      (λ u i. ap targets_meaning
      (map_same (meaning_within before k) (meaning_within after k) (table_word_targets before u)
      (λ m t. meaning_kept k m ((e u i).into m t) (target_unaffected n free u i m t))
      ∙ ap (λ (f : LookupResult). map (meaning_within after k) f.targets) (lookup_kept n free u i)))
      ∙ ap (entry_meaning (word_meaning_by after (meaning_within after k)) n.name) (entry_kept n free)

  -- words are unaffected if they are looked up as before and lead to no affected key
  abbrev AreUnaffected : List WordUse → Type 0
  AreUnaffected words =
      (u : WordUse) → Contains words u
      → (table_word_lookup before u ≡ table_word_lookup after u) × ((m : Key) → Contains (table_word_targets before u) m
      → IsUnaffected m)

  key_unaffected : (n : Key) → IsUnaffected n → AreUnaffected (table_words_of_key before n)
  key_unaffected n free u i = (lookup_kept n free u i, target_unaffected n free u i)

  -- unaffected words lead to the same keys
  leads_still : (words : List WordUse) (m : Key) → AreUnaffected words → TableWordsLeadTo before words m
      → TableWordsLeadTo after words m
  leads_still words m free (u, i, t) = (u, i, subst (λ (f : LookupResult). Contains f.targets m) (free u i).0 t)

  led_before : (words : List WordUse) (m : Key) → AreUnaffected words → TableWordsLeadTo after words m
      → TableWordsLeadTo before words m
  led_before words m free (u, i, t) = (u, i, subst (λ (f : LookupResult). Contains f.targets m) (sym (free u i).0) t)

  reaches_still : {words : List WordUse} {m : Key} → TableWordsReach before words m → AreUnaffected words
      → TableWordsReach after words m
  reaches_still (at_once l) free = at_once (leads_still _ _ free l)
  reaches_still {m = m} (further {n = n} l r) free =
      let below : IsUnaffected n = (free l.0 l.1).1 n l.2 in
      further (leads_still _ n free l)
      (subst (λ (ws : List WordUse). TableWordsReach after ws m) (words_kept n below)
      (reaches_still r (key_unaffected n below)))

  reached_before :
      {others : List WordUse} {m : Key} → TableWordsReach after others m
      → (words : List WordUse) → others ≡ words → AreUnaffected words → TableWordsReach before words m
  reached_before {m = m} (at_once l) words e free =
      at_once (led_before words m free (subst (λ (ws : List WordUse). TableWordsLeadTo after ws m) e l))
  reached_before (further {n = n} l r) words e free =
      let was : TableWordsLeadTo before words n =
      led_before words n free (subst (λ (ws : List WordUse). TableWordsLeadTo after ws n) e l) in
      let below : IsUnaffected n = (free was.0 was.1).1 n was.2 in
      further was (reached_before r (table_words_of_key before n) (sym (words_kept n below)) (key_unaffected n below))

  module _ (n : Key) (closed : IsClosedKey before n) (free : IsUnaffected n) where
    ends_after : EndsWithin after (suc (length before)) n
    ends_after = ends_kept (suc (length before)) n (closed_key_ending before n closed) free

    closed_after : IsClosedKey after n
    closed_after = ending_key_closed after (suc (length before)) n ends_after

    meaning_after : key_meaning before n ≡ key_meaning after n
    meaning_after =
        sym (enough before n closed)
        ∙ (meaning_kept (suc (length before)) n (closed_key_ending before n closed) free
        ∙ (meaning_at after (suc (length before)) (suc (length after)) n ends_after
        (closed_key_ending after n closed_after)
        ∙ enough after n closed_after))

    reach_after : (m : Key) → TableNameReaches before n m ↔ TableNameReaches after n m
    reach_after m = (
      λ r. subst (λ (ws : List WordUse). TableWordsReach after ws m) (words_kept n free)
          (reaches_still r (key_unaffected n free)),
      λ r. reached_before r (table_words_of_key before n) (sym (words_kept n free)) (key_unaffected n free),
    )

    pub as_before : IsClosedAsBefore before after n
    as_before = record {
      still_closed = closed_after;
      same_meaning = meaning_after;
      outcome = ap outcome_of_eval_meaning meaning_after;
      entry = entry_kept n free;
      lookups = lookup_kept n free;
      reach = reach_after;
    }

-- the law of unaffected keys
pub unaffected_table_name_law : UnaffectedTableNameLaw
unaffected_table_name_law before after keys changed n closed free = as_before before after keys changed n closed free
