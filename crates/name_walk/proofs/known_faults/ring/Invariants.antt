use Rattle.std.proofs.Common.{◌-◌, length}
use Rattle.name_walk.proofs.RingPass.{IsRinging}
use Rattle.name_walk.proofs.known_faults.ring.Given as goal

abbrev pub invariant-loop-here : goal.invariant-loop-here
invariant-loop-here l = IsRinging l.faults l.end l.first l.here l.names.items

abbrev pub decreases-loop-here : goal.decreases-loop-here
decreases-loop-here l = length l.faults - length l.names.items
