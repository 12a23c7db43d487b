-- Queries that were made before memory ran out.
use Rattle.std.proofs.Common.{◌≡◌, ◌∙◌, ℕ, List, ap, sym, subst}
use Rattle.std.specs.Prelude.{Result, Err}
use Rattle.live_table.specs.TableView.{IsAfterLiveEvents, LiveView}
use Rattle.live_table.specs.States.{LiveEvent}
use Rattle.reply.proofs.Runs.{inquiry_queries_cut_after_last}
use Rattle.watch.specs.Calls.{AreWatchQueries}
use Rattle.watch.specs.declared.fault.WatchFault.{WatchFault}
use Rattle.watch.specs.declared.fault.WatchFault.TheVariants.{OutOfMemory}

-- a watch that fails because memory ran out after its queries counts as cut off
pub failed_watch_queries_are_cut_off : {A : Type 0} (es : List LiveEvent) (r : Result A WatchFault) (fault : WatchFault)
    (a b : LiveView) (n m : ℕ)
    → r ≡ Err fault → fault ≡ OutOfMemory → b.deck ≡ a.deck → IsAfterLiveEvents es a b n m
    → AreWatchQueries es r a b n m
failed_watch_queries_are_cut_off {A} es r fault a b n m is wanting same f =
    subst (λ (r : Result A WatchFault). AreWatchQueries es r a b n m) (sym (is ∙ ap Err wanting))
    (inquiry_queries_cut_after_last es a b n m same f)
