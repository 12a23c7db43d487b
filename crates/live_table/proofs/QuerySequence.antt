-- Queries in turn.
use Rattle.std.proofs.Common.{◌≡◌, ◌≤◌, ◌^◌, ◌-◌, ℕ, Bool, true, false, List, [], ◌∷◌, ◌++◌, refl, sym, ◌∙◌, ap, arith}
use Rattle.std.specs.Prelude.{Result, Ok, Err}
use Rattle.quantity.specs.Amount.{Amount}
use Rattle.def_entry.specs.declared.key.Key.{Key}
use Rattle.table_names.specs.Faults.{key_fault, name_fault}
use Rattle.table_names.specs.Reach.{key_reach, reach}
use Rattle.std.specs.Option.{is_none}
use Rattle.live_table.specs.declared.fault.QueryFault.{QueryFault}
use Rattle.live_table.specs.declared.fault.QueryFault.TheVariants.{Name, Value, OutOfMemory}
use Rattle.live_table.specs.Calls.{IsLiveQuery}
use Rattle.live_table.specs.TableView.{AreLiveEventsCutOff, IsAfterLiveEvents, IsRightLiveView, LiveView}
use Rattle.live_table.specs.TableView.{live_state_with_steps}
use Rattle.live_table.specs.States.{AsksKey, AsksWords, Becomes, LiveEvent, LiveState, live_state_after_all}
use Rattle.live_table.specs.States.{live_state_after_event, live_state_after_query}
use Rattle.live_table.proofs.Events.{live_event_order_law}
use Rattle.live_table.proofs.SettleCounts.{settled_count_never_falls, settled_count_of_live_view}

-- a query never lowers the count of steps
live_query_leaves_no_fewer_steps : (b : Bool) (keys : List Key) (s : LiveState)
    → s.steps ≤ (live_state_after_query b keys s).steps
live_query_leaves_no_fewer_steps true keys s = omega arith
live_query_leaves_no_fewer_steps false keys s = omega arith

-- an event never lowers the count of steps
live_event_never_lowers_steps : (e : LiveEvent) (s : LiveState) → s.steps ≤ (live_state_after_event e s).steps
live_event_never_lowers_steps (AsksWords words) s = live_query_leaves_no_fewer_steps
    (is_none (name_fault s.table words)) (reach s.table words) s
live_event_never_lowers_steps (AsksKey n) s = live_query_leaves_no_fewer_steps (is_none (key_fault s.table n))
    (n ∷ key_reach s.table n) s
live_event_never_lowers_steps (Becomes t) s = omega arith

-- events never lower the count of steps
pub live_events_never_lower_steps : (es : List LiveEvent) (s : LiveState) → s.steps ≤ (live_state_after_all es s).steps
live_events_never_lower_steps [] s = omega arith
live_events_never_lower_steps (e ∷ es) s =
    let a : s.steps ≤ (live_state_after_event e s).steps = live_event_never_lowers_steps e s in
    let b : (live_state_after_event e s).steps ≤ (live_state_after_all es (live_state_after_event e s)).steps =
    live_events_never_lower_steps es (live_state_after_event e s) in
    omega arith

-- an empty run leaves a right table unchanged
pub no_live_events_keep_view : (s : LiveView) (n : ℕ) → IsRightLiveView s → IsAfterLiveEvents [] s s n n
no_live_events_keep_view s n right = record { state_after_events = refl; is_right = right }

-- two runs in turn are one run
pub live_event_runs_in_turn : (es fs : List LiveEvent) (a b c : LiveView) (o n m : ℕ) → IsAfterLiveEvents es a b o n
    → IsAfterLiveEvents fs b c n m
    → IsAfterLiveEvents (es ++ fs) a c o m
live_event_runs_in_turn es fs a b c o n m f g = record {
  state_after_events = g.state_after_events
      ∙ (ap (live_state_after_all fs) f.state_after_events
      ∙ sym (live_event_order_law es fs (live_state_with_steps a o)));
  is_right = g.is_right;
}

-- ---- counts of names newly settled
-- after events that were made, the count is not lower than before, and is that of the whole run
pub settled_count_after_live_events : (es : List LiveEvent) (a b : LiveView) (n m : ℕ) → IsAfterLiveEvents es a b n m
    → a.reductions ≤ 2 ^ 64 - 1 → (a.reductions ≤ b.reductions)
    × (b.reductions ≤ (live_state_after_all es (live_state_with_steps a n)).reductions)
settled_count_after_live_events es a b n m f can =
    let x : a.reductions ≤ (live_state_after_all es (live_state_with_steps a n)).reductions =
    (settled_count_of_live_view es a n can).0 in
    let y : b.reductions ≡ (live_state_after_all es (live_state_with_steps a n)).reductions =
    ap (λ (s : LiveState). s.reductions) f.state_after_events in
    (omega arith, omega arith)

-- after events that were made, the count is one that a live table can have
pub settled_count_stays_possible : (es : List LiveEvent) (a b : LiveView) (n m : ℕ) → IsAfterLiveEvents es a b n m
    → a.reductions ≤ 2 ^ 64 - 1 → b.reductions ≤ 2 ^ 64 - 1
settled_count_stays_possible es a b n m f can =
    let x : (live_state_after_all es (live_state_with_steps a n)).reductions ≤ 2 ^ 64 - 1 =
    (settled_count_of_live_view es a n can).1 in
    let y : b.reductions ≡ (live_state_after_all es (live_state_with_steps a n)).reductions =
    ap (λ (s : LiveState). s.reductions) f.state_after_events in
    omega arith

-- the count after a cut-off run is at most that after the run with further events
pub settled_count_after_cut_off_run : (fs gs : List LiveEvent) (b c : LiveView) (n m : ℕ)
    → AreLiveEventsCutOff fs b c n m
    → b.reductions ≤ 2 ^ 64 - 1 → (b.reductions ≤ c.reductions)
    × (c.reductions ≤ (live_state_after_all gs (live_state_after_all fs (live_state_with_steps b n))).reductions)
settled_count_after_cut_off_run fs gs b c n m g can =
    let x : (live_state_after_all fs (live_state_with_steps b n)).reductions
    ≤ (live_state_after_all gs (live_state_after_all fs (live_state_with_steps b n))).reductions =
    (settled_count_never_falls gs (live_state_after_all fs (live_state_with_steps b n))
    (settled_count_of_live_view fs b n can).1).0 in
    let y : c.reductions ≤ (live_state_after_all fs (live_state_with_steps b n)).reductions =
    (g.reductions_counted can).1 in
    ((g.reductions_counted can).0, omega arith)

-- events in three parts, from the state after the first part
live_events_in_three_parts : (es fs gs : List LiveEvent) (a b : LiveView) (o n : ℕ) → IsAfterLiveEvents es a b o n
    → live_state_after_all (es ++ (fs ++ gs)) (live_state_with_steps a o) ≡ live_state_after_all gs
    (live_state_after_all fs (live_state_with_steps b n))
live_events_in_three_parts es fs gs a b o n f =
    live_event_order_law es (fs ++ gs) (live_state_with_steps a o)
    ∙ (ap (live_state_after_all (fs ++ gs)) (sym f.state_after_events)
    ∙ live_event_order_law fs gs (live_state_with_steps b n))

-- events that are cut off in the midst of others
pub live_events_cut_off_in_midst : (es fs gs : List LiveEvent) (a b c : LiveView) (o n m : ℕ) → b.deck ≡ a.deck
    → IsAfterLiveEvents es a b o n
    → AreLiveEventsCutOff fs b c n m → AreLiveEventsCutOff (es ++ (fs ++ gs)) a c o m
live_events_cut_off_in_midst es fs gs a b c o n m same f g = record {
  deck = g.deck ∙ same;
  is_right = g.is_right;
  steps_least =
      let x : o ≤ (live_state_after_all es (live_state_with_steps a o)).steps = live_events_never_lower_steps es
      (live_state_with_steps a o) in
      let y : n ≡ (live_state_after_all es (live_state_with_steps a o)).steps =
      ap (λ (s : LiveState). s.steps) f.state_after_events in
      let z : n ≤ m = g.steps_least in omega arith;
  steps_most =
      let x : m ≤ (live_state_after_all fs (live_state_with_steps b n)).steps = g.steps_most in
      let y : (live_state_after_all fs (live_state_with_steps b n)).steps ≤
      (live_state_after_all gs (live_state_after_all fs (live_state_with_steps b n))).steps =
      live_events_never_lower_steps gs (live_state_after_all fs (live_state_with_steps b n)) in
      let z : (live_state_after_all (es ++ (fs ++ gs)) (live_state_with_steps a o)).steps
      ≡ (live_state_after_all gs (live_state_after_all fs (live_state_with_steps b n))).steps =
      ap (λ (s : LiveState). s.steps)
      (live_events_in_three_parts es fs gs a b o n f) in
      omega arith;
  reductions_counted = λ can.
      let x : a.reductions ≤ b.reductions = (settled_count_after_live_events es a b o n f can).0 in
      let y : b.reductions ≤ 2 ^ 64 - 1 = settled_count_stays_possible es a b o n f can in
      let part = settled_count_after_cut_off_run fs gs b c n m g y in
      let z : b.reductions ≤ c.reductions = part.0 in
      let w : c.reductions ≤ (live_state_after_all gs (live_state_after_all fs (live_state_with_steps b n))).reductions
      = part.1 in
      let v : (live_state_after_all (es ++ (fs ++ gs)) (live_state_with_steps a o)).reductions
      ≡ (live_state_after_all gs (live_state_after_all fs (live_state_with_steps b n))).reductions =
      ap (λ (s : LiveState). s.reductions) (live_events_in_three_parts es fs gs a b o n f) in
      (omega arith, omega arith);
}

-- a query that was made in full meets `IsLiveQuery`, whatever its result
pub whole_event_is_live_query : (e : LiveEvent) (r : Result Amount QueryFault) (a b : LiveView) (o n : ℕ)
    → b.deck ≡ a.deck
    → IsAfterLiveEvents (e ∷ []) a b o n → IsLiveQuery e r a b o n
whole_event_is_live_query e (Ok q) a b o n same f = f
whole_event_is_live_query e (Err (Name x)) a b o n same f = f
whole_event_is_live_query e (Err (Value v)) a b o n same f = f
whole_event_is_live_query e (Err OutOfMemory) a b o n same f = record {
  deck = same;
  is_right = f.is_right;
  steps_least =
      let x : o ≤ (live_state_after_all (e ∷ []) (live_state_with_steps a o)).steps = live_events_never_lower_steps
      (e ∷ []) (live_state_with_steps a o) in
      let y : n ≡ (live_state_after_all (e ∷ []) (live_state_with_steps a o)).steps =
      ap (λ (s : LiveState). s.steps) f.state_after_events in
      omega arith;
  steps_most = let y : n ≡ (live_state_after_all (e ∷ []) (live_state_with_steps a o)).steps =
      ap (λ (s : LiveState). s.steps) f.state_after_events
      in
      omega arith;
  reductions_counted = settled_count_after_live_events (e ∷ []) a b o n f;
}
