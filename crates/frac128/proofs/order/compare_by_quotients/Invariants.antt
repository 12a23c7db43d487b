use Rattle.std.proofs.Common.{◌+◌, ◌*◌}
use Rattle.frac128.proofs.Quotients.{IsAlike}
use Rattle.frac128.proofs.order.compare_by_quotients.Given as goal

abbrev pub invariant-loop-left : goal.invariant-loop-left
invariant-loop-left l = IsAlike l.a l.b l.c l.d (l.initial.a * l.initial.d) (l.initial.c * l.initial.b)

abbrev pub decreases-loop-left : goal.decreases-loop-left
decreases-loop-left l = l.b + l.d
