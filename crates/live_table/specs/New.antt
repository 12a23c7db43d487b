-- The names that a query newly settles.
use Rattle.std.specs.Prelude.{◌≡◌, ◌↔◌, ◌+◌, ◌-◌, ◌^◌, min, List, length, Contains}
use Rattle.std.specs.List.{IsDistinct}
use Rattle.def_entry.specs.declared.key.Key.{Key}
use Rattle.def_entry.specs.SameKeys.{is_same_entry_key}
use Rattle.live_table.specs.Right.{IsKeySettled, IsRightLiveState}
use Rattle.live_table.specs.States.{LiveState, with_cached_outcomes, with_settled}

-- the distinct names among these that are not settled
pub record AreNewlySettled (s : LiveState) (reached names : List Key) : Type 0 where
  pub unsettled_names : (n : Key) → Contains names n ↔ (Contains reached n × (IsKeySettled s n → ⊥))
  pub names_distinct : IsDistinct is_same_entry_key names

-- law: to settle the names that a query reaches is to add the outcomes of the new names, in any order, and to count
-- them
abbrev pub NewlySettledLaw : Type 0
NewlySettledLaw = (s : LiveState) (reached names : List Key) → IsRightLiveState s → AreNewlySettled s reached names
    → with_settled reached s
    ≡ record s {
      kept_outcomes = with_cached_outcomes s.table names s.kept_outcomes;
      reductions = min (2 ^ 64 - 1) (s.reductions + length names);
      steps = s.steps + length names;
    }
