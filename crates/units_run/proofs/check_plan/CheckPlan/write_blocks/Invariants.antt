use Rattle.std.proofs.Common.{◌≤◌, length}
use Rattle.live_table.specs.TableView.{IsRightLiveView}
use Rattle.units_run.proofs.ReportBlocks.{IsUnderway}
use Rattle.units_run.proofs.check_plan.CheckPlan.write_blocks.Given as goal

abbrev pub invariant-loop-done : goal.invariant-loop-done
invariant-loop-done g l = record {
  later : g.O.Sink.faults l.fn.out ≤ g.O.Sink.faults l.out;
  right : IsRightLiveView l.table;
  at : IsUnderway l.options l.places l.fn.self.notices.items (g.O.Sink.written l.fn.out) l.fn.self.table l.fn.steps
      l.rest
      l.lines.items l.any (g.O.Sink.written l.out) l.table l.steps;
}

abbrev pub decreases-loop-done : goal.decreases-loop-done
decreases-loop-done g l = length l.rest
