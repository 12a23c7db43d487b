use Rattle.std.proofs.Common.{take}
use Rattle.name_walk.proofs.SearchPasses.{ArePassedBy}
use Rattle.name_walk.proofs.search.search_query.Given as goal

abbrev pub invariant-loop-step : goal.invariant-loop-step
invariant-loop-step l =
    ArePassedBy l.net.steps.now l.net.settled.now (take l.step-index l.query) l.fn.traces l.traces l.faults.items
