use Rattle.std.proofs.Common.{◌-◌}
use Rattle.frac128.proofs.RootSearch.{IsBetween}
use Rattle.frac128.proofs.root.whole_root.Given as goal

abbrev pub invariant-loop-high : goal.invariant-loop-high
invariant-loop-high l = IsBetween l.low l.high l.q l.n

abbrev pub decreases-loop-high : goal.decreases-loop-high
decreases-loop-high l = l.high - l.low
