-- Events never lower the count of newly settled names.
use Rattle.std.proofs.Common.{◌≤◌, ◌^◌, ◌+◌, ◌-◌, ℕ, min, Bool, true, false, List, [], ◌∷◌, arith}
use Rattle.std.specs.Option.{is_none}
use Rattle.def_entry.specs.declared.key.Key.{Key}
use Rattle.table_names.specs.Faults.{key_fault, name_fault}
use Rattle.table_names.specs.Reach.{key_reach, reach}
use Rattle.live_table.specs.TableView.{LiveView, live_state_with_steps}
use Rattle.live_table.specs.States.{AsksKey, AsksWords, Becomes, LiveEvent, LiveState, live_state_after_all}
use Rattle.live_table.specs.States.{live_state_after_event, live_state_after_query}
use Rattle.live_table.specs.Runs.{SettledCountLaw}

-- a count that a live table can have, and that is not lower than before
abbrev pub Counts : ℕ → LiveState → Type 0
Counts before s = (before ≤ s.reductions) × (s.reductions ≤ 2 ^ 64 - 1)

settled_count_stays_in_bounds : (before count new : ℕ) → before ≤ count → count ≤ 2 ^ 64 - 1
    → (before ≤ min (2 ^ 64 - 1) (count + new)) × (min (2 ^ 64 - 1) (count + new) ≤ 2 ^ 64 - 1)
settled_count_stays_in_bounds before count new a b = (omega (arith, a, b), omega (arith, a, b))

query_keeps_settled_count : (b : Bool) (keys : List Key) (before : ℕ) (s : LiveState) → Counts before s
    → Counts before (live_state_after_query b keys s)
query_keeps_settled_count true keys before s h = settled_count_stays_in_bounds before s.reductions _ h.0 h.1
query_keeps_settled_count false keys before s h = h

event_keeps_settled_count : (e : LiveEvent) (before : ℕ) (s : LiveState) → Counts before s
    → Counts before (live_state_after_event e s)
event_keeps_settled_count (AsksWords words) before s h =
    query_keeps_settled_count (is_none (name_fault s.table words)) (reach s.table words) before s h
event_keeps_settled_count (AsksKey k) before s h =
    query_keeps_settled_count (is_none (key_fault s.table k)) (k ∷ key_reach s.table k) before s h
event_keeps_settled_count (Becomes later) before s h = h

events_keep_settled_count : (es : List LiveEvent) (before : ℕ) (s : LiveState) → Counts before s
    → Counts before (live_state_after_all es s)
events_keep_settled_count [] before s h = h
events_keep_settled_count (e ∷ es) before s h = events_keep_settled_count es before (live_state_after_event e s)
    (event_keeps_settled_count e before s h)

-- events never lower the count of a table, and leave it a count that a live table can have
pub settled_count_never_falls : (es : List LiveEvent) (s : LiveState) → s.reductions ≤ 2 ^ 64 - 1
    → Counts s.reductions (live_state_after_all es s)
settled_count_never_falls es s can = events_keep_settled_count es s.reductions s (omega arith, can)

pub settled_count_of_live_view : (es : List LiveEvent) (a : LiveView) (n : ℕ) → a.reductions ≤ 2 ^ 64 - 1
    → Counts a.reductions (live_state_after_all es (live_state_with_steps a n))
settled_count_of_live_view es a n can = settled_count_never_falls es (live_state_with_steps a n) can

-- the law of the count
pub settled_count_law : SettledCountLaw
settled_count_law es before n can = (settled_count_of_live_view es before n can).0
