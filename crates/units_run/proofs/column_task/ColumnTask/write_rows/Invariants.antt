use Rattle.std.proofs.Common.{◌≤◌, length}
use Rattle.units_run.proofs.ColumnBlocks.{IsColumnRunUnderway}
use Rattle.units_run.proofs.column_task.ColumnTask.write_rows.Given as goal

abbrev pub invariant-loop-block : goal.invariant-loop-block
invariant-loop-block g l = record {
  later : g.O.Sink.faults l.fn.out ≤ g.O.Sink.faults l.out;
  at : IsColumnRunUnderway l.question.options.now l.question.from.now l.question.to.now l.fn.columns
      (g.O.Sink.written l.fn.out) l.fn.self.table l.fn.steps l.columns
      l.refused (g.O.Sink.written l.out) l.table l.steps;
}

abbrev pub decreases-loop-block : goal.decreases-loop-block
decreases-loop-block g l = length l.columns.records
