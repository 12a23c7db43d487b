use Rattle.std.proofs.Common.{◌≤◌, ◌+◌, ◌-◌, length, drop}
use Rattle.gap_list.specs.Gaps.{AreGapsIncreasing}
use Rattle.gap_list.specs.Searches.{AreGapsBefore}
use Rattle.gap_list.proofs.searches.count_before.Given as goal

-- the first `low` gaps are before the item, and those from `high` on are not
abbrev pub invariant-loop-low : goal.invariant-loop-low
invariant-loop-low l = record {
  ordered : l.low ≤ l.high;
  within : l.high ≤ length l.gaps;
  before : AreGapsBefore l.place l.low l.gaps;
  after : AreGapsIncreasing (l.place + l.high + 1) (drop l.high l.gaps);
}

abbrev pub decreases-loop-low : goal.decreases-loop-low
decreases-loop-low l = l.high - l.low
