-- The effect of queries and edits, by the names whose outcomes are cached before and after each.
use Rattle.std.specs.Prelude.{◌≡◌, ◌↔◌, ◌≤◌, ◌+◌, ◌-◌, ◌^◌, ℕ, min, List, [], ◌∷◌, Some}
use Rattle.std.specs.FinMap as map_of
use Rattle.def_entry.specs.declared.key.Key.{Key}
use Rattle.table_names.specs.Meanings.{outcome}
use Rattle.tree_eval.specs.declared.outcome.Outcome.{Outcome}
use Rattle.live_table.specs.KeptNames.{IsNameCachedBy, live_event_table}
use Rattle.live_table.specs.Right.{IsKeySettled, IsRightLiveState}
use Rattle.live_table.specs.States.{ArePossibleLiveEvents, AsksKey, AsksWords, Becomes, CachedOutcomes, LiveEvent}
use Rattle.live_table.specs.States.{LiveState, live_state_after_all}

-- the number of names that an event adds to the cache: a query removes none, and an edit adds none
abbrev pub newly_cached : LiveEvent → (before after : CachedOutcomes) → ℕ
newly_cached (AsksWords words) before after = map_of.len after - map_of.len before
newly_cached (AsksKey k) before after = map_of.len after - map_of.len before
newly_cached (Becomes later) before after = 0

-- a query without a name fault adds the names that it reaches to the cache, and each new one counts as one step and as
-- one reduction; an edit removes the names that it affects; each cached outcome is that of the present table
pub record IsCachedBy (event : LiveEvent) (before after : LiveState) : Type 0 where
  pub later_table : after.table ≡ live_event_table event before.table
  pub names : (n : Key) → IsKeySettled after n ↔ IsNameCachedBy event before.table (IsKeySettled before) n
  pub outcomes : (n : Key) (o : Outcome) → map_of.get after.kept_outcomes n ≡ Some o → o ≡ outcome after.table n
  pub reductions_counted :
      after.reductions
      ≡ min (2 ^ 64 - 1) (before.reductions + newly_cached event before.kept_outcomes after.kept_outcomes)
  pub steps_counted : after.steps ≡ before.steps + newly_cached event before.kept_outcomes after.kept_outcomes

-- events in turn
abbrev pub AreCachedBy : List LiveEvent → LiveState → LiveState → Type 0
AreCachedBy [] before after = after ≡ before
AreCachedBy (event ∷ events) before after =
    (then : LiveState) × IsCachedBy event before then × AreCachedBy events then after

-- law: this determines the state after any possible events, and `live_state_after_all` computes it (no live table
-- counts more than 2^64 - 1 reductions)
abbrev pub CachedNamesLaw : Type 0
CachedNamesLaw = (events : List LiveEvent) (before after : LiveState) → IsRightLiveState before
    → ArePossibleLiveEvents events before
    → before.reductions ≤ 2 ^ 64 - 1
    → (after ≡ live_state_after_all events before) ↔ AreCachedBy events before after
