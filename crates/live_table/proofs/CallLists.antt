-- The names that lists of calls leave stored.
use Rattle.std.proofs.Common.{◌≡◌, ◌↔◌, ℕ, Bool, true, false, cond, List, [], ◌∷◌, ◌++◌, map, Contains, Result, Ok, Err}
use Rattle.std.proofs.Common.{refl, sym, ◌∙◌, subst}
use Rattle.std.specs.Option.{is_none}
use Rattle.quantity.specs.Amount.{Amount}
use Rattle.def_entry.specs.declared.key.Key.{Key}
use Rattle.def_entry.specs.Tables.{EntryTable, is_entry_present, AreKeysOfChangedEntries}
use Rattle.table_names.specs.Faults.{key_fault}
use Rattle.table_names.specs.Reach.{key_reach}
use Rattle.table_names.proofs.KeyLists.{member_table_key_is_among}
use Rattle.deck.specs.Changes.{KeysChangedByEditLaw, keys_changed_by_edit}
use Rattle.deck.specs.KeyLists.{DeckTableKeysLaw, deck_table_keys}
use Rattle.deck.specs.Tables.{table_of_deck}
use Rattle.live_table.specs.declared.fault.QueryFault.{QueryFault}
use Rattle.live_table.specs.declared.fault.QueryFault.TheVariants as query_fault
use Rattle.live_table.specs.CachingCalls.{IsPossible}
use Rattle.live_table.specs.Calls.{IsLiveQuery, is_settleable_kind, live_key_queries, settleable_names}
use Rattle.live_table.specs.KeptNames.{IsNameCachedByAll}
use Rattle.live_table.specs.Right.{IsKeySettled, IsRightLiveState}
use Rattle.live_table.specs.TableView.{IsAfterLiveEvents, IsRightLiveView, LiveView, live_state_with_steps}
use Rattle.live_table.specs.States.{ArePossibleLiveEvents, AsksKey, LiveEvent, LiveState, live_state_after_all}
use Rattle.live_table.specs.States.{live_state_after_event, live_state_after_query}
use Rattle.live_table.proofs.DeckTables.{live_deck_entries_fit_kinds}
use Rattle.live_table.proofs.KeptNames.{cached_after_events_law}
use Rattle.live_table.proofs.Runs.{live_event_run_law}
use Rattle.live_table.specs.CallLists.{AreLiveCalls, AreCompleteLiveCalls, LiveCall, LiveDeckKindsLaw, MadeLiveCall}
use Rattle.live_table.specs.CallLists.{AcceptedEdit, PossibleLiveEditsLaw, LiveCallsLaw, Unapply, IsCachedAfterCalls}
use Rattle.live_table.specs.CallLists.{IsLiveCall, RefusedEdit, SettleAll, Value, all_live_call_events}
use Rattle.live_table.specs.CallLists.{live_call_events, has_live_answer, is_complete_live_call, steps_after_live_calls}
use Rattle.live_table.specs.CallLists.{view_after_live_calls}
use Rattle.general_lemmas.proofs.Members.{member_first, member_later}

-- the law of the kinds of the keys of a deck
pub live_deck_kinds_law : LiveDeckKindsLaw
live_deck_kinds_law = live_deck_entries_fit_kinds

-- the law of possible edits
pub possible_live_edits_law : KeysChangedByEditLaw → PossibleLiveEditsLaw
possible_live_edits_law changed before later s is =
    subst (λ (t : EntryTable). AreKeysOfChangedEntries t (table_of_deck later)
    (keys_changed_by_edit t (table_of_deck later))) (sym is)
    (changed before later).lists_changed_keys

-- ---- events in turn
possible_live_events_in_turn : (es fs : List LiveEvent) (s : LiveState) → ArePossibleLiveEvents es s
    → ArePossibleLiveEvents fs (live_state_after_all es s) → ArePossibleLiveEvents (es ++ fs) s
possible_live_events_in_turn [] fs s a b = b
possible_live_events_in_turn (e ∷ es) fs s a b =
    (a.0, possible_live_events_in_turn es fs (live_state_after_event e s) a.1 b)

-- a query does not change the table
live_query_keeps_table : (b : Bool) (keys : List Key) (s : LiveState)
    → (live_state_after_query b keys s).table ≡ s.table
live_query_keeps_table true keys s = refl
live_query_keeps_table false keys s = refl

-- queries of keys that have entries are possible
live_name_queries_are_possible : (keys : List Key) (s : LiveState)
    → ((k : Key) → Contains keys k → is_entry_present s.table k ≡ true)
    → ArePossibleLiveEvents (live_key_queries keys) s
live_name_queries_are_possible [] s h = tt
live_name_queries_are_possible (k ∷ keys) s h =
    by (live_name_queries_are_possible keys behind there)
    (live_name_queries_are_possible keys s (λ m i. h m (member_later m k keys i))) (is_settleable_kind k.kind)
  where
    behind : LiveState
    behind = live_state_after_event (AsksKey k) s

    there : (m : Key) → Contains keys m → is_entry_present behind.table m ≡ true
    there m i =
        subst (λ (t : EntryTable). is_entry_present t m ≡ true)
        (sym (live_query_keeps_table (is_none (key_fault s.table k)) (k ∷ key_reach s.table k) s))
        (h m (member_later m k keys i))

    by : ArePossibleLiveEvents (live_key_queries keys) behind → ArePossibleLiveEvents (live_key_queries keys) s
        → (b : Bool)
        → ArePossibleLiveEvents (map AsksKey (cond b (k ∷ settleable_names keys) (settleable_names keys))) s
    by asked left true = (h k (member_first k k keys refl), asked)
    by asked left false = left

-- ---- one call
-- a result that is not lack of memory
answered_live_query_is_event : (event : LiveEvent) (r : Result Amount QueryFault) (s t : LiveView) (n m : ℕ)
    → has_live_answer r ≡ true
    → IsLiveQuery event r s t n m → IsAfterLiveEvents (event ∷ []) s t n m
answered_live_query_is_event event (Ok q) s t n m e h = h
answered_live_query_is_event event (Err (query_fault.Name f)) s t n m e h = h
answered_live_query_is_event event (Err (query_fault.Value f)) s t n m e h = h
answered_live_query_is_event event (Err query_fault.OutOfMemory) s t n m e h = cc

live_query_leaves_right_view : (event : LiveEvent) (r : Result Amount QueryFault) (s t : LiveView) (n m : ℕ)
    → IsLiveQuery event r s t n m
    → IsRightLiveView t
live_query_leaves_right_view event (Ok q) s t n m h = h.is_right
live_query_leaves_right_view event (Err (query_fault.Name f)) s t n m h = h.is_right
live_query_leaves_right_view event (Err (query_fault.Value f)) s t n m h = h.is_right
live_query_leaves_right_view event (Err query_fault.OutOfMemory) s t n m h = h.is_right

live_call_leaves_right_view : (c : LiveCall) (s t : LiveView) (n m : ℕ) → IsRightLiveView s → IsLiveCall c s t n m
    → IsRightLiveView t
live_call_leaves_right_view (Value e r) s t n m right h = live_query_leaves_right_view _ r s t n m h.1
live_call_leaves_right_view (Unapply name r) s t n m right h = live_query_leaves_right_view _ r s t n m h.2
live_call_leaves_right_view (SettleAll (Ok x)) s t n m right h = h.1.is_right
live_call_leaves_right_view (SettleAll (Err x)) s t n m right h = h.1.is_right
live_call_leaves_right_view AcceptedEdit s t n m right h = (h.1 n).is_right
live_call_leaves_right_view RefusedEdit s t n m right h = subst IsRightLiveView (sym h.1) right

-- a call that was made was possible
pub call_possible : (c : LiveCall) (s t : LiveView) (n m : ℕ) → IsLiveCall c s t n m → IsPossible c s
call_possible (Value e r) s t n m h = tt
call_possible (Unapply name r) s t n m h = h.0
call_possible (SettleAll r) s t n m h = tt
call_possible AcceptedEdit s t n m h = tt
call_possible RefusedEdit s t n m h = tt

pub complete_live_call_is_its_events : (c : LiveCall) (s t : LiveView) (n m : ℕ) → IsRightLiveView s
    → IsLiveCall c s t n m → is_complete_live_call c ≡ true
    → IsAfterLiveEvents (live_call_events c s t) s t n m
complete_live_call_is_its_events (Value e r) s t n m right h made = answered_live_query_is_event _ r s t n m made h.1
complete_live_call_is_its_events (Unapply name r) s t n m right h made = answered_live_query_is_event _ r s t n m made
    h.2
complete_live_call_is_its_events (SettleAll (Ok x)) s t n m right h made = h.1
complete_live_call_is_its_events (SettleAll (Err x)) s t n m right h made = cc
complete_live_call_is_its_events AcceptedEdit s t n m right h made =
    subst (λ (k : ℕ). IsAfterLiveEvents (live_call_events AcceptedEdit s t) s t n k) (sym h.0) (h.1 n)
complete_live_call_is_its_events RefusedEdit s t n m right h made =
    subst (λ (x : LiveView). IsAfterLiveEvents [] s x n m) (sym h.1)
    (subst (λ (k : ℕ). IsAfterLiveEvents [] s s n k) (sym h.0) (live_event_run_law.empty_run s n right))

-- the outcomes are right whatever the counts
pub right_at : (s : LiveView) (n m : ℕ) → IsRightLiveState (live_state_with_steps s n)
    → IsRightLiveState (live_state_with_steps s m)
right_at s n m r = record {
  settled_have_entries = r.settled_have_entries;
  settled_closed = r.settled_closed;
  reached_settled = r.reached_settled;
  outcomes_right = r.outcomes_right;
}

-- ---- several calls
live_calls_leave_right_view : (ds : List MadeLiveCall) (s : LiveView) (n : ℕ) → IsRightLiveView s → AreLiveCalls ds s n
    → IsRightLiveView (view_after_live_calls ds s)
live_calls_leave_right_view [] s n right h = right
live_calls_leave_right_view (d ∷ ds) s n right h =
    live_calls_leave_right_view ds d.shown_after d.steps
    (live_call_leaves_right_view d.table_call s d.shown_after n d.steps right h.0) h.1

module _ (edits : PossibleLiveEditsLaw) (keys : DeckTableKeysLaw) where
  -- the events of a possible call are possible
  pub possible_events : (c : LiveCall) (s t : LiveView) (n : ℕ) → IsPossible c s
      → ArePossibleLiveEvents (live_call_events c s t) (live_state_with_steps s n)
  possible_events (Value e r) s t n h = (tt, tt)
  possible_events (Unapply name r) s t n h = (h, tt)
  possible_events (SettleAll r) s t n h =
      live_name_queries_are_possible (deck_table_keys (table_of_deck s.deck)) (live_state_with_steps s n) (λ k i.
      sym ((keys (table_of_deck s.deck)).key_membership k)
      ∙ member_table_key_is_among (deck_table_keys (table_of_deck s.deck)) k i)
  possible_events AcceptedEdit s t n h = (edits s.deck t.deck (live_state_with_steps s n) refl, tt)
  possible_events RefusedEdit s t n h = tt

  pub together : (ds : List MadeLiveCall) (s : LiveView) (n : ℕ) → IsRightLiveView s → AreLiveCalls ds s n
      → AreCompleteLiveCalls ds
      → ArePossibleLiveEvents (all_live_call_events ds s) (live_state_with_steps s n) × IsAfterLiveEvents
      (all_live_call_events ds s) s (view_after_live_calls ds s) n
      (steps_after_live_calls ds n)
  together [] s n right h made = (tt, live_event_run_law.empty_run s n right)
  together (d ∷ ds) s n right h made =
      let f : IsAfterLiveEvents (live_call_events d.table_call s d.shown_after) s d.shown_after n d.steps =
      complete_live_call_is_its_events d.table_call s d.shown_after n d.steps right h.0 made.0 in
      let rest = together ds d.shown_after d.steps f.is_right h.1 made.1 in (
        possible_live_events_in_turn (live_call_events d.table_call s d.shown_after)
            (all_live_call_events ds d.shown_after) (live_state_with_steps s n)
            (possible_events d.table_call s d.shown_after n (call_possible d.table_call s d.shown_after n d.steps h.0))
            (subst (ArePossibleLiveEvents (all_live_call_events ds d.shown_after)) f.state_after_events rest.0),
        live_event_run_law.run_append (live_call_events d.table_call s d.shown_after)
            (all_live_call_events ds d.shown_after) s d.shown_after
            (view_after_live_calls ds d.shown_after)
            n d.steps (steps_after_live_calls ds d.steps) f rest.1,
      )

  kept_since : (ds : List MadeLiveCall) (s : LiveView) (n : ℕ) → IsRightLiveView s → AreLiveCalls ds s n
      → AreCompleteLiveCalls ds
      → IsCachedAfterCalls ds s n
  kept_since ds s n right h made =
      let both = together ds s n right h made in record {
        events_after = both.1;
        settled_names = λ k.
            subst (λ (x : LiveState). IsKeySettled x k ↔ IsNameCachedByAll (all_live_call_events ds s)
            (table_of_deck s.deck)
            (IsKeySettled (live_state_with_steps s 0)) k)
            (sym both.1.state_after_events)
            ((cached_after_events_law (all_live_call_events ds s) (live_state_with_steps s n) both.0
            (right_at s 0 n right)).names
            k);
        outcomes = both.1.is_right.outcomes_right;
      }

-- the law of lists of calls
pub live_calls_law : PossibleLiveEditsLaw → DeckTableKeysLaw → LiveCallsLaw
live_calls_law edits keys = record { stays_right = live_calls_leave_right_view; keeps_names = kept_since edits keys }
