-- Queries that running out of memory cut off.
use Rattle.std.proofs.Common.{ℕ, List}
use Rattle.std.specs.Prelude.{IsErrAnd, Result, Ok, Err}
use Rattle.std.specs.declared.alloc.AllocError.{AllocError}
use Rattle.live_table.specs.Calls.{AreLiveQueries}
use Rattle.live_table.specs.TableView.{AreLiveEventsCutOff, IsRightLiveView, LiveView}
use Rattle.live_table.specs.States.{LiveEvent}
use Rattle.live_table.proofs.NameQueries.{live_events_cut_at_start}

-- memory ran out before any query
pub no_cell_query_before_memory_end : {A : Type 0} (Q : AllocError → Type 0) (r : Result A AllocError)
    (es : List LiveEvent) (a : LiveView) (n : ℕ)
    → IsErrAnd r Q → IsRightLiveView a → AreLiveQueries es r a a n n
no_cell_query_before_memory_end Q (Ok x) es a n failed right = absurd failed
no_cell_query_before_memory_end Q (Err e) es a n failed right = live_events_cut_at_start es a n right

-- memory ran out, which cut the queries off
pub cell_queries_are_cut_off : {A : Type 0} (Q : AllocError → Type 0) (r : Result A AllocError) (es : List LiveEvent)
    (a b : LiveView) (n m : ℕ)
    → IsErrAnd r Q → AreLiveEventsCutOff es a b n m → AreLiveQueries es r a b n m
cell_queries_are_cut_off Q (Ok x) es a b n m failed cut = absurd failed
cell_queries_are_cut_off Q (Err e) es a b n m failed cut = cut
