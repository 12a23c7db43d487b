-- Queries that were made, whether or not memory ran out afterwards.
use Rattle.std.proofs.Common.{◌≡◌, ℕ, List, [], subst}
use Rattle.std.specs.Prelude.{Result, Ok, Err}
use Rattle.std.specs.declared.alloc.AllocError.{AllocError}
use Rattle.std.proofs.lemmas.List.{append-nil}
use Rattle.live_table.specs.Calls.{AreLiveQueries}
use Rattle.live_table.specs.TableView.{AreLiveEventsCutOff, IsAfterLiveEvents, LiveView}
use Rattle.live_table.specs.States.{LiveEvent}
use Rattle.live_table.proofs.Runs.{live_event_run_law}

-- queries that were made are a case of queries that were cut off
pub inquiry_queries_cut_after_last : (es : List LiveEvent) (a b : LiveView) (n m : ℕ) → b.deck ≡ a.deck
    → IsAfterLiveEvents es a b n m
    → AreLiveEventsCutOff es a b n m
inquiry_queries_cut_after_last es a b n m same p =
    subst (λ (fs : List LiveEvent). AreLiveEventsCutOff fs a b n m) (append-nil es)
    (live_event_run_law.cut_between es [] a b n m same p)

-- queries were made, or cut off for lack of memory, whatever the result of the call after them
pub inquiry_queries_made_or_cut : {A : Type 0} (r : Result A AllocError) (es : List LiveEvent) (a b : LiveView)
    (n m : ℕ) → b.deck ≡ a.deck
    → IsAfterLiveEvents es a b n m → AreLiveQueries es r a b n m
inquiry_queries_made_or_cut (Ok x) es a b n m same p = p
inquiry_queries_made_or_cut (Err e) es a b n m same p = inquiry_queries_cut_after_last es a b n m same p
