-- Events in turn, of which the last may have been cut off.
use Rattle.std.specs.Prelude.{◌≡◌, ◌≤◌, ◌^◌, ◌+◌, ◌-◌, ℕ, List, [], ◌++◌}
use Rattle.live_table.specs.TableView.{AreLiveEventsCutOff, IsAfterLiveEvents, IsRightLiveView, LiveView}
use Rattle.live_table.specs.TableView.{live_state_with_steps}
use Rattle.live_table.specs.States.{LiveEvent, live_state_after_all}

-- law: an empty run of events leaves a table whose outcomes are right unchanged; two runs in turn are one run; and if
-- events over an unchanged deck were made in part or in full, they are a cut-off part of more events
pub record LiveEventRunLaw : Type 0 where
  pub empty_run : (s : LiveView) (n : ℕ) → IsRightLiveView s → IsAfterLiveEvents [] s s n n
  pub run_append : (es fs : List LiveEvent) (a b c : LiveView) (n m k : ℕ) → IsAfterLiveEvents es a b n m
      → IsAfterLiveEvents fs b c m k
      → IsAfterLiveEvents (es ++ fs) a c n k
  pub cut_before : (es fs : List LiveEvent) (a b : LiveView) (n m : ℕ) → AreLiveEventsCutOff es a b n m
      → AreLiveEventsCutOff (es ++ fs) a b n m
  pub cut_behind : (es fs : List LiveEvent) (a b c : LiveView) (n m k : ℕ) → b.deck ≡ a.deck
      → IsAfterLiveEvents es a b n m
      → AreLiveEventsCutOff fs b c m k → AreLiveEventsCutOff (es ++ fs) a c n k
  pub cut_between : (es fs : List LiveEvent) (a b : LiveView) (n m : ℕ) → b.deck ≡ a.deck → IsAfterLiveEvents es a b n m
      → AreLiveEventsCutOff (es ++ fs) a b n m

-- law: the state after events does not depend on previous counts, except for the steps, to which the events add a fixed
-- number
abbrev pub LiveEventStepsLaw : Type 0
LiveEventStepsLaw = (es : List LiveEvent) (s : LiveView) (n : ℕ)
    → live_state_after_all es (live_state_with_steps s n) ≡ record (live_state_after_all es (live_state_with_steps s 0))
    { steps = n + (live_state_after_all es (live_state_with_steps s 0)).steps }

-- law: events never lower the count of names newly settled, from any count that a live table can have
abbrev pub SettledCountLaw : Type 0
SettledCountLaw = (es : List LiveEvent) (before : LiveView) (n : ℕ) → before.reductions ≤ 2 ^ 64 - 1
    → before.reductions ≤ (live_state_after_all es (live_state_with_steps before n)).reductions
