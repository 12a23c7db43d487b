-- Stored outcomes that are right.
use Rattle.std.specs.Prelude.{◌≡◌, true, List, Some}
use Rattle.std.specs.FinMap as map_of
use Rattle.std.specs.Option.{is_some}
use Rattle.def_entry.specs.declared.key.Key.{Key}
use Rattle.def_entry.specs.Tables.{is_entry_present}
use Rattle.tree_eval.specs.declared.outcome.Outcome.{Outcome}
use Rattle.table_names.specs.ClosedKeys.{IsClosedKey}
use Rattle.table_names.specs.Leads.{TableNameReaches}
use Rattle.table_names.specs.Meanings.{outcome}
use Rattle.live_table.specs.States.{ArePossibleLiveEvents, LiveEvent, LiveState, live_state_after_all}

-- the name is settled
abbrev pub IsKeySettled : LiveState → Key → Type 0
IsKeySettled s n = is_some (map_of.get s.kept_outcomes n) ≡ true

-- each settled name has an entry and no name fault, the names that it reaches are settled, and its stored outcome is
-- that of the present table
pub record IsRightLiveState (s : LiveState) : Type 0 where
  pub settled_have_entries : (n : Key) → IsKeySettled s n → is_entry_present s.table n ≡ true
  pub settled_closed : (n : Key) → IsKeySettled s n → IsClosedKey s.table n
  pub reached_settled : (n m : Key) → IsKeySettled s n → TableNameReaches s.table n m → IsKeySettled s m
  pub outcomes_right : (n : Key) (o : Outcome) → map_of.get s.kept_outcomes n ≡ Some o → o ≡ outcome s.table n

-- law: the stored outcomes are right after any queries and edits
abbrev pub RightCachedOutcomesLaw : Type 0
RightCachedOutcomesLaw = (es : List LiveEvent) (s : LiveState) → ArePossibleLiveEvents es s → IsRightLiveState s
    → IsRightLiveState (live_state_after_all es s)
