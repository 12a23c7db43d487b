use Rattle.name_walk.proofs.Moves.{IsGoingAt, weight_at}
use Rattle.name_walk.proofs.visit.visit.Given as goal

abbrev pub invariant-loop-traces : goal.invariant-loop-traces
invariant-loop-traces l =
    IsGoingAt l.net.steps.now l.net.settled.now l.start l.fn.traces.order l.traces l.here.name l.here.place

abbrev pub decreases-loop-traces : goal.decreases-loop-traces
decreases-loop-traces l = weight_at l.net.steps.now l.traces l.here.name l.here.place
