use Rattle.std.proofs.Common.{◌≡◌, ◌-◌, ◌<◌, All, drop, take}
use Rattle.piecewise.specs.Points.{points_rise}
use Rattle.piecewise.proofs.FirstSegments.{IsKnown}
use Rattle.piecewise.proofs.points.rises.Given as goal

abbrev pub invariant-loop-i : goal.invariant-loop-i
invariant-loop-i l = record {
  rest : points_rise (drop (l.i - 1) l.points) ≡ points_rise l.points;
  denominators : 1 < l.i → All IsKnown (take l.i l.points);
}
