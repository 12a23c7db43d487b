use Rattle.std.proofs.Common.{◌≡◌, ◌≤◌, ◌+◌, ◌-◌, length, drop}
use Rattle.gap_list.specs.Gaps.{place_without_gaps}
use Rattle.gap_list.proofs.searches.count_below.Given as goal

-- the first `low` gaps are before the slot, and those from `high` on are not
abbrev pub invariant-loop-low : goal.invariant-loop-low
invariant-loop-low l = record {
  ordered : l.low ≤ l.high;
  within : l.high ≤ length l.gaps;
  before : place_without_gaps l.gaps l.slot + l.low ≡ place_without_gaps (drop l.low l.gaps) l.slot;
  after : place_without_gaps (drop l.high l.gaps) l.slot ≡ l.slot;
}

abbrev pub decreases-loop-low : goal.decreases-loop-low
decreases-loop-low l = l.high - l.low
