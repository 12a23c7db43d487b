use Rattle.std.proofs.Common.{◌≤◌, ◌-◌, length}
use Rattle.gap_list.specs.Searches.{AreGapsBefore}
use Rattle.gap_list.proofs.searches.count_from.Given as goal

-- the first `count` gaps are before the item
abbrev pub invariant-loop-count : goal.invariant-loop-count
invariant-loop-count l = record {
  more : l.known ≤ l.count;
  within : l.count ≤ length l.gaps;
  before : AreGapsBefore l.place l.count l.gaps;
}

abbrev pub decreases-loop-count : goal.decreases-loop-count
decreases-loop-count l = length l.gaps - l.count
