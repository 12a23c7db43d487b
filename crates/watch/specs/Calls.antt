-- The effects of the calls of watches.
use Rattle.std.specs.Prelude.{◌≡◌, ◌++◌, ℕ, List, map, take, drop, Result, Ok, Err}
use Rattle.def_entry.specs.Tables.{EntryTable}
use Rattle.live_table.specs.TableView.{AreLiveEventsCutOff, IsAfterLiveEvents, LiveView}
use Rattle.live_table.specs.States.{LiveEvent}
use Rattle.reply.specs.declared.options.Options.{Options}
use Rattle.watch.specs.declared.fault.WatchFault.{WatchFault}
use Rattle.watch.specs.declared.fault.WatchFault.TheVariants.{TooMany, OutOfMemory}
use Rattle.watch.specs.declared.watch.Watch.{Watch}
use Rattle.watch.specs.WatchViews.{with_current_reply}

-- all queries were made; or none, because there are too many watches; or running out of memory cut them off
abbrev pub AreWatchQueries : {A : Type 0} → List LiveEvent → Result A WatchFault → LiveView → LiveView → ℕ → ℕ → Type 0
AreWatchQueries events (Ok _) before after old new = IsAfterLiveEvents events before after old new
AreWatchQueries events (Err TooMany) before after old new = (after ≡ before) × (new ≡ old)
AreWatchQueries events (Err OutOfMemory) before after old new = AreLiveEventsCutOff events before after old new

-- the watches up to some place have their reply in this table, and the others are as before
pub record AreWatchesPartlyRenewed (table : EntryTable) (options : Options) (old new : List Watch) : Type 0 where
  pub count : ℕ
  pub parts : new ≡ map (with_current_reply table options) (take count old) ++ drop count old
