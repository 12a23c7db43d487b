use Rattle.std.proofs.Common.{◌≡◌, length, take}
use Rattle.name_walk.proofs.QueryPasses.{ArePassed}
use Rattle.name_walk.proofs.walk.visit_each.Given as goal

abbrev pub invariant-loop-step : goal.invariant-loop-step
invariant-loop-step l = record {
  passed : ArePassed l.net.steps.now l.net.settled.now (take l.step-index l.query) l.traces;
  size : length l.traces.marks ≡ length l.fn.traces.marks;
}
