use Rattle.piecewise.proofs.FirstSegments.{IsSearched}
use Rattle.piecewise.proofs.points.Points.back.Given as goal

abbrev pub invariant-loop-i : goal.invariant-loop-i
invariant-loop-i l = IsSearched l.self-inside.points.items l.y l.i l.before
