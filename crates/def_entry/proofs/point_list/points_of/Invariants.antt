use Rattle.std.proofs.Common.{◌≡◌, ◌≤◌, length}
use Rattle.def_entry.specs.PointLists.{most_point_pairs, points_of}
use Rattle.def_entry.proofs.PointRuns.{points_in_runs}
use Rattle.def_entry.proofs.PointWords.{onto}
use Rattle.def_entry.proofs.point_list.points_of.Given as goal

abbrev pub invariant-loop-part : goal.invariant-loop-part
invariant-loop-part l = record {
  same : onto l.points.items (points_in_runs l.rest) ≡ points_of l.text;
  few : length l.points.items ≤ most_point_pairs;
}

abbrev pub decreases-loop-part : goal.decreases-loop-part
decreases-loop-part l = length l.rest
