-- Events in turn, of which the last may have been cut off, and the steps that they take.
use Rattle.std.proofs.Common.{◌≡◌, ◌+◌, ◌≤◌, ℕ, Bool, true, false, List, [], ◌∷◌, ◌++◌, refl, ◌∙◌, ap, subst, arith}
use Rattle.std.specs.Option.{is_none}
use Rattle.std.proofs.lemmas.List.{append-nil}
use Rattle.def_entry.specs.declared.key.Key.{Key}
use Rattle.table_names.specs.Faults.{key_fault, name_fault}
use Rattle.table_names.specs.Reach.{key_reach, reach}
use Rattle.live_table.specs.Runs.{LiveEventRunLaw, LiveEventStepsLaw}
use Rattle.live_table.specs.TableView.{AreLiveEventsCutOff, IsAfterLiveEvents, LiveView, live_state_with_steps}
use Rattle.live_table.specs.States.{AsksKey, AsksWords, Becomes, LiveEvent, LiveState, live_state_after_all}
use Rattle.live_table.specs.States.{live_state_after_event, live_state_after_query}
use Rattle.live_table.proofs.Events.{live_event_order_law}
use Rattle.live_table.proofs.QuerySequence.{live_event_runs_in_turn, live_events_cut_off_in_midst}
use Rattle.live_table.proofs.QuerySequence.{no_live_events_keep_view, settled_count_after_cut_off_run}
use Rattle.live_table.proofs.QuerySequence.{settled_count_after_live_events, live_events_never_lower_steps}

-- ---- events that are cut off among others
steps_of_live_events_in_turn : (es fs : List LiveEvent) (s : LiveState)
    → (live_state_after_all (es ++ fs) s).steps ≡ (live_state_after_all fs (live_state_after_all es s)).steps
steps_of_live_events_in_turn es fs s = ap (λ (s : LiveState). s.steps) (live_event_order_law es fs s)

-- events that were cut off are a cut-off run with further events after them
cut_live_events_before_more : (es fs : List LiveEvent) (a b : LiveView) (n m : ℕ) → AreLiveEventsCutOff es a b n m
    → AreLiveEventsCutOff (es ++ fs) a b n m
cut_live_events_before_more es fs a b n m q = record {
  deck = q.deck;
  is_right = q.is_right;
  steps_least = q.steps_least;
  steps_most =
      let x : (live_state_after_all (es ++ fs) (live_state_with_steps a n)).steps
      ≡ (live_state_after_all fs (live_state_after_all es (live_state_with_steps a n))).steps =
      steps_of_live_events_in_turn es fs (live_state_with_steps a n) in
      let y : (live_state_after_all es (live_state_with_steps a n)).steps ≤
      (live_state_after_all fs (live_state_after_all es (live_state_with_steps a n))).steps =
      live_events_never_lower_steps fs (live_state_after_all es (live_state_with_steps a n)) in
      let z : m ≤ (live_state_after_all es (live_state_with_steps a n)).steps = q.steps_most in
      omega arith;
  reductions_counted = λ can.
      let part = settled_count_after_cut_off_run es fs a b n m q can in
      let x : (live_state_after_all (es ++ fs) (live_state_with_steps a n)).reductions
      ≡ (live_state_after_all fs (live_state_after_all es (live_state_with_steps a n))).reductions =
      ap (λ (s : LiveState). s.reductions) (live_event_order_law es fs (live_state_with_steps a n)) in
      let y : b.reductions ≤ (live_state_after_all fs (live_state_after_all es (live_state_with_steps a n))).reductions
      = part.1 in
      (part.0, omega arith);
}

-- events that were cut off are a cut-off run with complete events before them
cut_live_events_after_whole : (es fs : List LiveEvent) (a b c : LiveView) (n m k : ℕ) → b.deck ≡ a.deck
    → IsAfterLiveEvents es a b n m
    → AreLiveEventsCutOff fs b c m k → AreLiveEventsCutOff (es ++ fs) a c n k
cut_live_events_after_whole es fs a b c n m k same p q =
    subst (λ (gs : List LiveEvent). AreLiveEventsCutOff (es ++ gs) a c n k) (append-nil fs)
    (live_events_cut_off_in_midst es fs [] a b c n m k same p q)

-- events that were made are a case of events that were cut off
whole_live_events_are_cut_off : (es : List LiveEvent) (a b : LiveView) (n m : ℕ) → b.deck ≡ a.deck
    → IsAfterLiveEvents es a b n m → AreLiveEventsCutOff es a b n m
whole_live_events_are_cut_off es a b n m same p = record {
  deck = same;
  is_right = p.is_right;
  steps_least =
      let x : n ≤ (live_state_after_all es (live_state_with_steps a n)).steps = live_events_never_lower_steps es
      (live_state_with_steps a n) in
      let y : m ≡ (live_state_after_all es (live_state_with_steps a n)).steps =
      ap (λ (s : LiveState). s.steps) p.state_after_events in
      omega arith;
  steps_most = let y : m ≡ (live_state_after_all es (live_state_with_steps a n)).steps =
      ap (λ (s : LiveState). s.steps) p.state_after_events in
      omega arith;
  reductions_counted = settled_count_after_live_events es a b n m p;
}

-- the law of runs
pub live_event_run_law : LiveEventRunLaw
live_event_run_law = record {
  empty_run = no_live_events_keep_view;
  run_append = live_event_runs_in_turn;
  cut_before = cut_live_events_before_more;
  cut_behind = cut_live_events_after_whole;
  cut_between = λ es fs a b n m same p. cut_live_events_before_more es fs a b n m
      (whole_live_events_are_cut_off es a b n m same p);
}

-- ---- steps that were counted before
-- a state with this number of additional steps
abbrev later : ℕ → LiveState → LiveState
later n s = record s { steps = n + s.steps }

-- a query has the same effect at a later count
live_query_at_later_count : (b : Bool) (keys : List Key) (n : ℕ) (s : LiveState)
    → live_state_after_query b keys (later n s) ≡ later n (live_state_after_query b keys s)
live_query_at_later_count true keys n s = ap (λ k. record (live_state_after_query true keys s) { steps = k })
    (regroup n s.steps _)
  where
    regroup : (n k m : ℕ) → (n + k) + m ≡ n + (k + m)
    regroup n k m = omega arith
live_query_at_later_count false keys n s = refl

-- an event has the same effect at a later count
live_event_at_later_count : (e : LiveEvent) (n : ℕ) (s : LiveState) → live_state_after_event e (later n s) ≡ later n
    (live_state_after_event e s)
live_event_at_later_count (AsksWords words) n s = live_query_at_later_count (is_none (name_fault s.table words))
    (reach s.table words) n s
live_event_at_later_count (AsksKey k) n s = live_query_at_later_count (is_none (key_fault s.table k))
    (k ∷ key_reach s.table k) n s
live_event_at_later_count (Becomes t) n s = refl

-- events have the same effect at a later count
live_events_at_later_count : (es : List LiveEvent) (n : ℕ) (s : LiveState)
    → live_state_after_all es (later n s) ≡ later n (live_state_after_all es s)
live_events_at_later_count [] n s = refl
live_events_at_later_count (e ∷ es) n s = ap (live_state_after_all es) (live_event_at_later_count e n s)
    ∙ live_events_at_later_count es n (live_state_after_event e s)

-- a state with previous steps is a state at a later count
live_state_is_at_later_count : (s : LiveView) (n : ℕ) → live_state_with_steps s n ≡ later n (live_state_with_steps s 0)
live_state_is_at_later_count s n = ap (live_state_with_steps s) (plain n)
  where
    plain : (n : ℕ) → n ≡ n + 0
    plain n = omega arith

-- the law of the count of steps
pub live_event_steps_law : LiveEventStepsLaw
live_event_steps_law es s n = ap (live_state_after_all es) (live_state_is_at_later_count s n)
    ∙ live_events_at_later_count es n (live_state_with_steps s 0)
