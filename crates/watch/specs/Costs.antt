-- The cost of queries of settled names.
use Rattle.std.specs.Prelude.{◌≡◌, List, ◌∷◌, All, Contains}
use Rattle.def_entry.specs.declared.key.Key.{Key}
use Rattle.live_table.specs.Right.{IsKeySettled, IsRightLiveState}
use Rattle.live_table.specs.States.{AsksKey, AsksWords, Becomes, LiveEvent, LiveState, live_state_after_all}
use Rattle.table_names.specs.Reach.{key_reach, reach}

-- a query for which everything that it reaches is settled
abbrev pub WatchAsksSettled : LiveState → LiveEvent → Type 0
WatchAsksSettled s (AsksWords words) = (n : Key) → Contains (reach s.table words) n → IsKeySettled s n
WatchAsksSettled s (AsksKey k) = (n : Key) → Contains (k ∷ key_reach s.table k) n → IsKeySettled s n
WatchAsksSettled s (Becomes later) = ⊥

-- the table, the cached outcomes and the count of steps are as before
pub record WatchLeavesTableUnchanged (before now : LiveState) : Type 0 where
  pub table : now.table ≡ before.table
  pub same_cache : now.kept_outcomes ≡ before.kept_outcomes
  pub steps : now.steps ≡ before.steps

-- law: queries of settled names settle nothing and take no step
abbrev pub WatchCostLaw : Type 0
WatchCostLaw = (events : List LiveEvent) (s : LiveState) → IsRightLiveState s → All (WatchAsksSettled s) events
    → WatchLeavesTableUnchanged s (live_state_after_all events s)
