use Rattle.std.proofs.Common.{◌≡◌}
use Rattle.name_walk.proofs.Moves.{weight_at}
use Rattle.name_walk.proofs.SearchInvariant.{IsSeeking}
use Rattle.name_walk.proofs.search.search_name.Given as goal

abbrev pub invariant-loop-step : goal.invariant-loop-step
invariant-loop-step l = record {
  go : IsSeeking l.net.steps.now l.net.settled.now l.start l.fn.traces l.traces.marks l.traces.entered_names
      l.traces.order
      l.fn.faults.items l.traces.frames l.here.name l.here.place;
  same : l.faults ≡ l.fn.faults;
}

abbrev pub decreases-loop-step : goal.decreases-loop-step
decreases-loop-step l = weight_at l.net.steps.now l.traces l.here.name l.here.place
