-- Outcomes stay right after queries and edits.
use Rattle.std.proofs.Common.{◌≡◌, ◌⊎◌, Bool, true, false, cond, not, List, [], ◌∷◌, Contains}
use Rattle.std.proofs.Common.{Option, Some, None, is_none, is_some, refl, sym, ◌∙◌, ap, subst, inl, inr}
use Rattle.std.specs.FinMap as map_of
use Rattle.std.proofs.lemmas.Bool.{cases_Bool, cond-true, not-true, not_from_false, false_from_ne_true, true≢false}
use Rattle.expr_tree.specs.declared.word_list.WordUse.{WordUse}
use Rattle.def_entry.specs.declared.key.Key.{Key}
use Rattle.def_entry.specs.SameKeys.{is_entry_key_among}
use Rattle.def_entry.specs.Tables.{EntryTable, is_entry_present}
use Rattle.tree_eval.specs.declared.outcome.Outcome.{Outcome}
use Rattle.table_names.specs.AffectedKeys.{IsAffectedTableName, is_affected_table_name}
use Rattle.table_names.specs.ClosedKeys.{AreClosedWords, IsClosedKey}
use Rattle.table_names.specs.Edits.{AreKeysOfChangedEntries, IsClosedAsBefore}
use Rattle.table_names.specs.Faults.{key_fault, name_fault}
use Rattle.table_names.specs.Leads.{TableNameReaches}
use Rattle.table_names.specs.Meanings.{outcome}
use Rattle.table_names.specs.Reach.{key_reach, reach}
use Rattle.table_names.specs.Words.{table_words_of_key}
use Rattle.table_names.proofs.AffectedKeys.{affected_table_name_law}
use Rattle.table_names.proofs.ClosedLaws.{closed_word_law}
use Rattle.table_names.proofs.UnchangedKeys.{unaffected_table_name_law}
use Rattle.table_names.proofs.KeyLists.{member_table_key_is_among, table_key_among_is_member}
use Rattle.table_names.proofs.ReachedKeys.{table_name_reach_law}
use Rattle.deck.specs.Changes.{keys_changed_by_edit}
use Rattle.live_table.specs.Right.{IsKeySettled, IsRightLiveState, RightCachedOutcomesLaw}
use Rattle.live_table.specs.States.{AsksKey, AsksWords, Becomes, IsPossibleLiveEvent, LiveEvent, LiveEventOrderLaw}
use Rattle.live_table.specs.States.{LiveState}
use Rattle.live_table.specs.States.{live_state_after_edit, live_state_after_event, live_state_after_query, with_settled}
use Rattle.live_table.proofs.Outcomes.{cached_outcomes_left_by_test, left_out, put_in}
use Rattle.general_lemmas.proofs.Members.{member_later, member_cases}
use Rattle.general_lemmas.proofs.Options.{none_is}

-- ---- the names that a query settles
-- closed keys that have entries, with all keys that they reach
pub record AreWhole (t : EntryTable) (keys : List Key) : Type 0 where
  present : (n : Key) → Contains keys n → is_entry_present t n ≡ true
  closed : (n : Key) → Contains keys n → IsClosedKey t n
  below : (n m : Key) → Contains keys n → TableNameReaches t n m → Contains keys m

module _ (t : EntryTable) where
  pub words_whole : (words : List WordUse) → AreClosedWords t words → AreWhole t (reach t words)
  words_whole words e = record {
    present = λ n i. table_name_reach_law.reached_have_entries t words n
        ((table_name_reach_law.reached_words t words e n).0 i);
    closed = λ n i. closed_word_law.reached_words_closed t words e n
        ((table_name_reach_law.reached_words t words e n).0 i);
    below = λ n m i r. (table_name_reach_law.reached_words t words e m).1
        (table_name_reach_law.reached_further t words n m ((table_name_reach_law.reached_words t words e n).0 i) r);
  }

  pub key_whole : (n : Key) → is_entry_present t n ≡ true → IsClosedKey t n → AreWhole t (n ∷ key_reach t n)
  key_whole n there e = record { present = present; closed = closed; below = below }
    where
      words_closed : AreClosedWords t (table_words_of_key t n)
      words_closed = (closed_word_law.key t n).0 e

      whole : AreWhole t (key_reach t n)
      whole = words_whole (table_words_of_key t n) words_closed

      present : (m : Key) → Contains (n ∷ key_reach t n) m → is_entry_present t m ≡ true
      present m i = elim (member_cases m n (key_reach t n) i) [
        | inl q ↦ subst (λ (k : Key). is_entry_present t k ≡ true) (sym q) there
        | inr j ↦ whole.present m j
      ]

      closed : (m : Key) → Contains (n ∷ key_reach t n) m → IsClosedKey t m
      closed m i = elim (member_cases m n (key_reach t n) i) [
        | inl q ↦ subst (λ (k : Key). IsClosedKey t k) (sym q) e
        | inr j ↦ whole.closed m j
      ]

      below : (m k : Key) → Contains (n ∷ key_reach t n) m → TableNameReaches t m k → Contains (n ∷ key_reach t n) k
      below m k i r = member_later k n (key_reach t n) (elim (member_cases m n (key_reach t n) i) [
        | inl q ↦ (table_name_reach_law.reached_words t (table_words_of_key t n) words_closed k).1
            (subst (λ (x : Key). TableNameReaches t x k) q r)
        | inr j ↦ whole.below m k j r
      ])

module _ (s : LiveState) (keys : List Key) (whole : AreWhole s.table keys) (h : IsRightLiveState s) where
  abbrev grown : LiveState
  grown = with_settled keys s

  either : (n : Key) → Contains keys n ⊎ (map_of.get grown.kept_outcomes n ≡ map_of.get s.kept_outcomes n)
  either n = elim (cases_Bool (is_entry_key_among keys n)) [
    | inl e ↦ inl (table_key_among_is_member keys n e)
    | inr e ↦ inr (left_out s.table keys s.kept_outcomes n
        (λ i. true≢false (sym (member_table_key_is_among keys n i) ∙ e)))
  ]

  pub old_or_new : (n : Key) → IsKeySettled grown n → Contains keys n ⊎ IsKeySettled s n
  old_or_new n i = elim (either n) [ inl j ↦ inl j | inr e ↦ inr (sym (ap is_some e) ∙ i) ]

  pub new_in : (n : Key) → Contains keys n → IsKeySettled grown n
  new_in n i = ap is_some (put_in s.table keys s.kept_outcomes n (inl i))

  pub old_in : (n : Key) → IsKeySettled s n → IsKeySettled grown n
  old_in n i = elim (either n) [ inl j ↦ new_in n j | inr e ↦ ap is_some e ∙ i ]

  grown_right : IsRightLiveState grown
  grown_right = record {
    settled_have_entries = λ n i.
        elim (old_or_new n i) [ inl j ↦ whole.present n j | inr j ↦ h.settled_have_entries n j ];
    settled_closed = λ n i. elim (old_or_new n i) [ inl j ↦ whole.closed n j | inr j ↦ h.settled_closed n j ];
    reached_settled = λ n m i r. elim (old_or_new n i)
        [ inl j ↦ new_in m (whole.below n m j r) | inr j ↦ old_in m (h.reached_settled n m j r) ];
    outcomes_right = λ n o e. elim (either n) [
      | inl j ↦ some_same (outcome s.table n) o (sym (put_in s.table keys s.kept_outcomes n (inl j)) ∙ e)
      | inr q ↦ h.outcomes_right n o (sym q ∙ e)
    ];
  }
    where
      some_same : (p o : Outcome) → Some p ≡ Some o → o ≡ p
      some_same p o e = cc

-- a query leaves all outcomes right
query_keeps_live_state_right : (s : LiveState) (keys : List Key) (b : Bool) → (b ≡ true → AreWhole s.table keys)
    → IsRightLiveState s
    → IsRightLiveState (live_state_after_query b keys s)
query_keeps_live_state_right s keys true whole h = grown_right s keys (whole refl) h
query_keeps_live_state_right s keys false whole h = h

-- ---- the outcomes that an edit leaves
cached_outcome_left_was_there : (b : Bool) (o : Option Outcome) → is_some (cond b o None) ≡ true
    → (b ≡ true) × (is_some o ≡ true)
cached_outcome_left_was_there true o e = (refl, e)
cached_outcome_left_was_there false o e = cc

-- an outcome that is left is the previous one
cached_outcome_left_is_previous : (b : Bool) (o : Option Outcome) (x : Outcome) → cond b o None ≡ Some x → o ≡ Some x
cached_outcome_left_is_previous true o x e = e
cached_outcome_left_is_previous false o x e = cc

module _ (s : LiveState) (table : EntryTable) (keys : List Key) (changed : AreKeysOfChangedEntries s.table table keys)
    (h : IsRightLiveState s) where
  abbrev left : LiveState
  left = live_state_after_edit table keys s

  abbrev stays : Key → Bool
  stays n = not (is_affected_table_name s.table keys n)

  pub parts : (n : Key) → IsKeySettled left n → (stays n ≡ true) × IsKeySettled s n
  parts n i = cached_outcome_left_was_there (stays n) (map_of.get s.kept_outcomes n)
      (sym (ap is_some (cached_outcomes_left_by_test s.kept_outcomes stays n))
      ∙ i)

  pub free : (n : Key) → IsKeySettled left n → IsAffectedTableName s.table keys n → ⊥
  free n i a =
      true≢false (sym ((affected_table_name_law.affected_exactly s.table keys n (h.settled_closed n (parts n i).1)).1 a)
      ∙ not-true (is_affected_table_name s.table keys n) (parts n i).0)

  pub stays_in : (m : Key) → IsKeySettled s m → (IsAffectedTableName s.table keys m → ⊥) → IsKeySettled left m
  stays_in m i f =
      let e : stays m ≡ true =
      not_from_false (is_affected_table_name s.table keys m)
      (false_from_ne_true (is_affected_table_name s.table keys m)
      (λ q. f ((affected_table_name_law.affected_exactly s.table keys m (h.settled_closed m i)).0 q))) in
      ap is_some (cached_outcomes_left_by_test s.kept_outcomes stays m
      ∙ cond-true (stays m) (map_of.get s.kept_outcomes m) None e) ∙ i

  as_before : (n : Key) → IsKeySettled left n → IsClosedAsBefore s.table table n
  as_before n i = unaffected_table_name_law s.table table keys changed n (h.settled_closed n (parts n i).1) (free n i)

  below_still : (n m : Key) → IsKeySettled left n → TableNameReaches table n m → IsKeySettled left m
  below_still n m i r =
      let before : TableNameReaches s.table n m = ((as_before n i).reach m).1 r in
      stays_in m (h.reached_settled n m (parts n i).1 before)
      (λ a. free n i (affected_table_name_law.users s.table keys n m before a))

  edit_right : IsRightLiveState left
  edit_right = record {
    settled_have_entries = λ n i. sym (ap is_some (as_before n i).entry) ∙ h.settled_have_entries n (parts n i).1;
    settled_closed = λ n i. (as_before n i).still_closed;
    reached_settled = below_still;
    outcomes_right = λ n o e.
        h.outcomes_right n o (cached_outcome_left_is_previous (stays n) (map_of.get s.kept_outcomes n) o
        (sym (cached_outcomes_left_by_test s.kept_outcomes stays n) ∙ e))
        ∙ (as_before n (ap is_some e)).outcome;
  }

-- ---- a single event, and a list of events
pub event_keeps_live_state_right : (e : LiveEvent) (s : LiveState) → IsPossibleLiveEvent e s → IsRightLiveState s
    → IsRightLiveState (live_state_after_event e s)
event_keeps_live_state_right (AsksWords words) s can h =
    query_keeps_live_state_right s (reach s.table words) (is_none (name_fault s.table words))
    (λ e. words_whole s.table words (none_is (name_fault s.table words) e)) h
event_keeps_live_state_right (AsksKey n) s can h =
    query_keeps_live_state_right s (n ∷ key_reach s.table n) (is_none (key_fault s.table n))
    (λ e. key_whole s.table n can (none_is (key_fault s.table n) e)) h
event_keeps_live_state_right (Becomes table) s can h = edit_right s table (keys_changed_by_edit s.table table) can h

-- the law of right tables
pub right_cached_outcomes_law : RightCachedOutcomesLaw
right_cached_outcomes_law [] s can h = h
right_cached_outcomes_law (e ∷ es) s can h = right_cached_outcomes_law es (live_state_after_event e s) can.1
    (event_keeps_live_state_right e s can.0 h)

-- the law of events in turn
pub live_event_order_law : LiveEventOrderLaw
live_event_order_law [] fs s = refl
live_event_order_law (e ∷ es) fs s = live_event_order_law es fs (live_state_after_event e s)
