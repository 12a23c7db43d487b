use Rattle.name_walk.proofs.ClearedFaults.{IsClearing}
use Rattle.name_walk.proofs.search.clear.Given as goal

abbrev pub invariant-loop-name : goal.invariant-loop-name
invariant-loop-name l = IsClearing l.fn.traces.entered_names l.fn.faults.items l.faults.items l.name-index
