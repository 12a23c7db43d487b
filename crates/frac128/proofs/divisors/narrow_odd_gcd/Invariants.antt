use Rattle.std.proofs.Common.{◌+◌}
use Rattle.frac128.proofs.BinarySteps.{IsOddPair}
use Rattle.frac128.proofs.divisors.narrow_odd_gcd.Given as goal

abbrev pub invariant-loop-x : goal.invariant-loop-x
invariant-loop-x l = IsOddPair l.a l.b l.x l.y

abbrev pub decreases-loop-x : goal.decreases-loop-x
decreases-loop-x l = l.x + l.y
