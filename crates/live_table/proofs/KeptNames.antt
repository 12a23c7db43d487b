-- The names that are stored after queries and edits.
use Rattle.std.proofs.Common.{◌≡◌, ◌⊎◌, ◌↔◌, Bool, true, false, List, [], ◌∷◌, Contains, is_none, refl, sym}
use Rattle.std.proofs.Common.{ap, subst, inl, inr}
use Rattle.std.proofs.lemmas.Bool.{true≢false}
use Rattle.def_entry.specs.declared.key.Key.{Key}
use Rattle.def_entry.specs.Tables.{EntryTable}
use Rattle.deck.specs.Changes.{keys_changed_by_edit}
use Rattle.table_names.specs.ClosedKeys.{AreClosedWords, IsClosedKey}
use Rattle.table_names.specs.Faults.{key_fault, name_fault}
use Rattle.table_names.specs.Leads.{TableNameReaches, TableWordsReach}
use Rattle.table_names.specs.Reach.{key_reach, reach}
use Rattle.table_names.specs.Words.{table_words_of_key}
use Rattle.table_names.proofs.ClosedLaws.{closed_word_law}
use Rattle.table_names.proofs.ReachedKeys.{table_name_reach_law}
use Rattle.live_table.specs.KeptNames.{CachedAfterEventsLaw, IsNameCachedBy, IsNameCachedByAll, live_event_table}
use Rattle.live_table.specs.Right.{IsKeySettled, IsRightLiveState}
use Rattle.live_table.specs.States.{ArePossibleLiveEvents, AsksKey, AsksWords, Becomes, IsPossibleLiveEvent, LiveEvent}
use Rattle.live_table.specs.States.{LiveState, live_state_after_all, live_state_after_event, live_state_after_query}
use Rattle.live_table.proofs.Events.{AreWhole, event_keeps_live_state_right, free, key_whole, new_in, old_in}
use Rattle.live_table.proofs.Events.{old_or_new, parts, right_cached_outcomes_law, stays_in, words_whole}
use Rattle.general_lemmas.proofs.Members.{member_first, member_later, member_cases}
use Rattle.general_lemmas.proofs.Options.{none_is}

-- ---- a query
module _ (s : LiveState) (keys : List Key) (h : IsRightLiveState s) (Closed : Type 0) (Reached : Key → Type 0)
    (whole : Closed → AreWhole s.table keys) (listed : Closed → (n : Key) → Contains keys n ↔ Reached n) where
  query_kept : (b : Bool) → (b ≡ true → Closed) → (Closed → b ≡ true) → (n : Key)
      → IsKeySettled (live_state_after_query b keys s) n ↔ (IsKeySettled s n ⊎ (Closed × Reached n))
  query_kept true is of n = (
    λ i. elim (old_or_new s keys (whole (is refl)) h n i) [
      | inl j ↦ inr (is refl, (listed (is refl) n).0 j)
      | inr j ↦ inl j
    ],
    λ k. elim k [
      | inl j ↦ old_in s keys (whole (is refl)) h n j
      | inr r ↦ new_in s keys (whole (is refl)) h n ((listed r.0 n).1 r.1)
    ],
  )
  query_kept false is of n =
      (λ i. inl i, λ k. elim k [ inl j ↦ j | inr r ↦ absurd (true≢false (sym (of r.0))) ])

-- ---- a single event
cached_key_reach_is_listed : (table : EntryTable) (k : Key) → IsClosedKey table k → (n : Key)
    → Contains (k ∷ key_reach table k) n ↔ ((n ≡ k) ⊎ TableNameReaches table k n)
cached_key_reach_is_listed table k closed n = (
  λ i. elim (member_cases n k (key_reach table k) i) [ inl e ↦ inl e | inr j ↦ inr ((words n).0 j) ],
  λ r. elim r [
    | inl e ↦ member_first n k (key_reach table k) e
    | inr w ↦ member_later n k (key_reach table k) ((words n).1 w)
  ],
)
  where
    words : (n : Key) → Contains (key_reach table k) n ↔ TableNameReaches table k n
    words = table_name_reach_law.reached_words table (table_words_of_key table k)
        ((closed_word_law.key table k).0 closed)

-- the names that are stored after an event are those of `IsNameCachedBy`
pub names_cached_after_event : (e : LiveEvent) (s : LiveState) → IsPossibleLiveEvent e s → IsRightLiveState s
    → (n : Key)
    → IsKeySettled (live_state_after_event e s) n ↔ IsNameCachedBy e s.table (IsKeySettled s) n
names_cached_after_event (AsksWords words) s can h =
    query_kept s (reach s.table words) h (AreClosedWords s.table words) (TableWordsReach s.table words)
    (words_whole s.table words) (table_name_reach_law.reached_words s.table words) (is_none (name_fault s.table words))
    (none_is (name_fault s.table words)) (λ e. ap is_none e)
names_cached_after_event (AsksKey k) s can h =
    query_kept s (k ∷ key_reach s.table k) h (IsClosedKey s.table k) (λ n. (n ≡ k) ⊎ TableNameReaches s.table k n)
    (key_whole s.table k can) (cached_key_reach_is_listed s.table k) (is_none (key_fault s.table k))
    (none_is (key_fault s.table k)) (λ e. ap is_none e)
names_cached_after_event (Becomes later) s can h = λ n. (
  λ i. (
    (parts s later (keys_changed_by_edit s.table later) can h n i).1,
    free s later
        (keys_changed_by_edit s.table later) can h n i,
  ),
  λ i. stays_in s later (keys_changed_by_edit s.table later) can h n i.0 i.1,
)

-- a query does not change the table
live_query_yields_table : (b : Bool) (keys : List Key) (s : LiveState)
    → (live_state_after_query b keys s).table ≡ s.table
live_query_yields_table true keys s = refl
live_query_yields_table false keys s = refl

-- the table after an event is that of `live_event_table`
pub live_event_yields_table : (e : LiveEvent) (s : LiveState) → (live_state_after_event e s).table ≡ live_event_table e
    s.table
live_event_yields_table (AsksWords words) s = live_query_yields_table (is_none (name_fault s.table words))
    (reach s.table words) s
live_event_yields_table (AsksKey k) s = live_query_yields_table (is_none (key_fault s.table k))
    (k ∷ key_reach s.table k) s
live_event_yields_table (Becomes later) s = refl

-- ---- a list of events
-- `IsNameCachedBy` is monotone in the stored names
cached_by_is_monotone : (e : LiveEvent) (table : EntryTable) (A B : Key → Type 0) → ((n : Key) → A n → B n) → (n : Key)
    → IsNameCachedBy e table A n → IsNameCachedBy e table B n
cached_by_is_monotone (AsksWords words) table A B f n k = elim k [ inl i ↦ inl (f n i) | inr r ↦ inr r ]
cached_by_is_monotone (AsksKey q) table A B f n k = elim k [ inl i ↦ inl (f n i) | inr r ↦ inr r ]
cached_by_is_monotone (Becomes later) table A B f n k = (f n k.0, k.1)

-- `IsNameCachedByAll` is monotone in the stored names
cached_by_all_is_monotone : (es : List LiveEvent) (table : EntryTable) (A B : Key → Type 0) → ((n : Key) → A n → B n)
    → (n : Key)
    → IsNameCachedByAll es table A n → IsNameCachedByAll es table B n
cached_by_all_is_monotone [] table A B f n k = f n k
cached_by_all_is_monotone (e ∷ es) table A B f n k =
    cached_by_all_is_monotone es (live_event_table e table) (IsNameCachedBy e table A) (IsNameCachedBy e table B)
    (cached_by_is_monotone e table A B f) n k

-- the names that are stored after events are those of `IsNameCachedByAll`
names_cached_after_events : (es : List LiveEvent) (s : LiveState) → ArePossibleLiveEvents es s → IsRightLiveState s
    → (n : Key)
    → IsKeySettled (live_state_after_all es s) n ↔ IsNameCachedByAll es s.table (IsKeySettled s) n
names_cached_after_events [] s can h n = (λ i. i, λ i. i)
names_cached_after_events (e ∷ es) s can h n =
    let rest = names_cached_after_events es (live_state_after_event e s) can.1
    (event_keeps_live_state_right e s can.0 h) n in
    let one = names_cached_after_event e s can.0 h in (
      λ i. subst (λ (t : EntryTable). IsNameCachedByAll es t (IsNameCachedBy e s.table (IsKeySettled s)) n)
          (live_event_yields_table e s)
          (cached_by_all_is_monotone es (live_state_after_event e s).table (IsKeySettled (live_state_after_event e s))
          (IsNameCachedBy e s.table (IsKeySettled s))
          (λ m j. (one m).0 j) n (rest.0 i)),
      λ i. rest.1 (cached_by_all_is_monotone es (live_state_after_event e s).table
          (IsNameCachedBy e s.table (IsKeySettled s))
          (IsKeySettled (live_state_after_event e s))
          (λ m j. (one m).1 j) n
          (subst (λ (t : EntryTable). IsNameCachedByAll es t (IsNameCachedBy e s.table (IsKeySettled s)) n)
          (sym (live_event_yields_table e s)) i)),
    )

-- the law of stored names
pub cached_after_events_law : CachedAfterEventsLaw
cached_after_events_law es s can h =
    record {
      names = names_cached_after_events es s can h;
      outcomes =
          (right_cached_outcomes_law es s can h).outcomes_right;
    }
