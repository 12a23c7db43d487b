-- The clauses of calls, in terms of the names whose outcomes are cached before and after each.
use Rattle.std.proofs.Common.{◌≡◌, ◌≤◌, ◌-◌, ◌^◌, ℕ, true, List, [], ◌∷◌, Result, Ok, Err, sym, subst, ap}
use Rattle.quantity.specs.Amount.{Amount}
use Rattle.deck.specs.KeyLists.{DeckTableKeysLaw}
use Rattle.deck.specs.Tables.{table_of_deck}
use Rattle.live_table.specs.declared.fault.QueryFault.{QueryFault}
use Rattle.live_table.specs.declared.fault.QueryFault.TheVariants as query_fault
use Rattle.live_table.specs.CachedNames.{AreCachedBy}
use Rattle.live_table.specs.CachingCalls.{CachingCallsLaw, IsCachingCall}
use Rattle.live_table.specs.CallLists.{AcceptedEdit, AreCompleteLiveCalls, AreLiveCalls, IsLiveCall, LiveCall}
use Rattle.live_table.specs.CallLists.{MadeLiveCall, PossibleLiveEditsLaw, RefusedEdit, SettleAll, Unapply, Value}
use Rattle.live_table.specs.CallLists.{all_live_call_events, has_live_answer, live_call_events, is_complete_live_call}
use Rattle.live_table.specs.CallLists.{steps_after_live_calls, view_after_live_calls}
use Rattle.live_table.specs.Calls.{IsAcceptedLiveEdit, IsLiveQuery}
use Rattle.live_table.specs.Right.{IsRightLiveState}
use Rattle.live_table.specs.States.{ArePossibleLiveEvents, Becomes, LiveEvent, LiveState, live_state_after_all}
use Rattle.live_table.specs.TableView.{IsAfterLiveEvents, IsRightLiveView, LiveView, live_state_with_steps}
use Rattle.live_table.proofs.CachedNames.{cached_names_law}
use Rattle.live_table.proofs.CallLists.{call_possible, complete_live_call_is_its_events, possible_events, right_at}
use Rattle.live_table.proofs.CallLists.{together}
use Rattle.live_table.proofs.Events.{right_cached_outcomes_law}

-- ---- from the state after a call to its clauses
-- the clause of a query that did not lack memory
query_of : (event : LiveEvent) (r : Result Amount QueryFault) (s t : LiveView) (n m : ℕ) → has_live_answer r ≡ true
    → IsAfterLiveEvents (event ∷ []) s t n m → IsLiveQuery event r s t n m
query_of event (Ok q) s t n m e h = h
query_of event (Err (query_fault.Name f)) s t n m e h = h
query_of event (Err (query_fault.Value f)) s t n m e h = h
query_of event (Err query_fault.OutOfMemory) s t n m e h = cc

-- an edit has the same effect at each count of steps
accepted_of : (s t : LiveView) (n m : ℕ) → IsAfterLiveEvents (Becomes (table_of_deck t.deck) ∷ []) s t n m
    → IsAcceptedLiveEdit s t
accepted_of s t n m f k = record {
  state_after_events = λ i. record {
    table = table_of_deck t.deck;
    kept_outcomes = ap (λ (u : LiveState). u.kept_outcomes) f.state_after_events i;
    reductions = ap (λ (u : LiveState). u.reductions) f.state_after_events i;
    steps = k;
  };
  is_right = f.is_right;
}

-- tables with the same deck, outcomes and count are the same
same_shown : (s t : LiveView) (n m : ℕ) → t.deck ≡ s.deck → live_state_with_steps t m ≡ live_state_with_steps s n
    → t ≡ s
same_shown s t n m same e = λ i. record {
  deck = same i;
  kept_outcomes = ap (λ (u : LiveState). u.kept_outcomes) e i;
  reductions = ap (λ (u : LiveState). u.reductions) e i;
}

call_of : (c : LiveCall) (s t : LiveView) (n m : ℕ) → is_complete_live_call c ≡ true → IsCachingCall c s t n m
    → IsAfterLiveEvents (live_call_events c s t) s t n m → IsLiveCall c s t n m
call_of (Value e r) s t n m made h f = (h.deck_after, query_of _ r s t n m made f)
call_of (Unapply name r) s t n m made h f = (h.possible, h.deck_after, query_of _ r s t n m made f)
call_of (SettleAll (Ok x)) s t n m made h f = (h.deck_after, f)
call_of (SettleAll (Err x)) s t n m made h f = cc
call_of AcceptedEdit s t n m made h f = (ap (λ (u : LiveState). u.steps) f.state_after_events, accepted_of s t n m f)
call_of RefusedEdit s t n m made h f =
    (ap (λ (u : LiveState). u.steps) f.state_after_events, same_shown s t n m h.deck_after f.state_after_events)

-- ---- one call
module _ (edits : PossibleLiveEditsLaw) (keys : DeckTableKeysLaw) where
  -- the parts of the clauses of a call that no event describes
  caching_with : (c : LiveCall) (s t : LiveView) (n m : ℕ) → IsLiveCall c s t n m
      → AreCachedBy (live_call_events c s t) (live_state_with_steps s n) (live_state_with_steps t m)
      → IsCachingCall c s t n m
  caching_with (Value e r) s t n m h q = record { possible = tt; deck_after = h.0; names_cached = q }
  caching_with (Unapply name r) s t n m h q = record { possible = h.0; deck_after = h.1; names_cached = q }
  caching_with (SettleAll r) s t n m h q = record { possible = tt; deck_after = h.0; names_cached = q }
  caching_with AcceptedEdit s t n m h q = record { possible = tt; deck_after = tt; names_cached = q }
  caching_with RefusedEdit s t n m h q =
      record { possible = tt; deck_after = ap (λ (x : LiveView). x.deck) h.1; names_cached = q }

  module _ (c : LiveCall) (s t : LiveView) (n m : ℕ) (right : IsRightLiveView s) (few : s.reductions ≤ 2 ^ 64 - 1)
      (made : is_complete_live_call c ≡ true) where
    caching_call : IsLiveCall c s t n m → IsCachingCall c s t n m
    caching_call h =
        caching_with c s t n m h
        ((cached_names_law (live_call_events c s t) (live_state_with_steps s n) (live_state_with_steps t m)
        (right_at s 0 n right)
        (possible_events edits keys c s t n (call_possible c s t n m h)) few).0
        (complete_live_call_is_its_events c s t n m right h made).state_after_events)

    -- the state after the call
    follows_from : IsCachingCall c s t n m → IsAfterLiveEvents (live_call_events c s t) s t n m
    follows_from h =
        let can : ArePossibleLiveEvents (live_call_events c s t) (live_state_with_steps s n) =
        possible_events edits keys c s t n h.possible in
        let before : IsRightLiveState (live_state_with_steps s n) = right_at s 0 n right in
        let same : live_state_with_steps t m ≡ live_state_after_all (live_call_events c s t) (live_state_with_steps s n)
        =
        (cached_names_law (live_call_events c s t) (live_state_with_steps s n) (live_state_with_steps t m) before can
        few).1
        h.names_cached in
        let after : IsRightLiveState (live_state_with_steps t m) =
        subst IsRightLiveState (sym same)
        (right_cached_outcomes_law (live_call_events c s t) (live_state_with_steps s n) can before) in
        record { state_after_events = same; is_right = right_at t m 0 after }

  -- ---- several calls
  all_calls : (ds : List MadeLiveCall) (s : LiveView) (n : ℕ) → IsRightLiveView s → s.reductions ≤ 2 ^ 64 - 1
      → AreLiveCalls ds s n
      → AreCompleteLiveCalls ds
      → AreCachedBy (all_live_call_events ds s) (live_state_with_steps s n)
      (live_state_with_steps (view_after_live_calls ds s) (steps_after_live_calls ds n))
  all_calls ds s n right few h made =
      let both = together edits keys ds s n right h made in
      (cached_names_law (all_live_call_events ds s) (live_state_with_steps s n)
      (live_state_with_steps (view_after_live_calls ds s) (steps_after_live_calls ds n))
      (right_at s 0 n right) both.0 few).0 both.1.state_after_events

-- the law of calls that cache names
pub caching_calls_law : PossibleLiveEditsLaw → DeckTableKeysLaw → CachingCallsLaw
caching_calls_law edits keys = record {
  one_call = λ c s t n m right few made. (
    caching_call edits keys c s t n m right few made,
    λ h. call_of c s t n m made h (follows_from edits keys c s t n m right few made h),
  );
  all_calls = all_calls edits keys;
}
