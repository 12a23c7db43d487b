use Rattle.std.proofs.Common.{◌∙◌, List, inl, inr, refl, sym, ap, subst, arith}
use Rattle.units_io.specs.Bytes.{sink_bytes_append, SinkGrowsByPrefix}
use Rattle.session.specs.Outside.{SessionOutside}
use Rattle.column_convert.specs.declared.column_row.ColumnRow.{ColumnRow}
use Rattle.units_run.specs.ColumnOutputs.{AreColumnRunRowsWritten}
use Rattle.units_run.specs.Calls.{column_run}
use Rattle.units_run.specs.Endings.{IsRunColumnOutput, IsStatedRunEnd, IsWorkedRunEnd}
use Rattle.units_run.specs.declared.status.Status.{Status}
use Rattle.units_run.proofs.ColumnRuns.{converted, rows_same, stated_column_end_is_worked_run, steps_same}
use Rattle.units_run.proofs.WrittenBytes.{column_run_sink_grows_by_none}
use Rattle.units_run.proofs.column_plan.ColumnPlan.convert_column.Goals as goal

pub returns-in_default-clause-if_known : goal.returns-in_default-clause-if_known
returns-in_default-clause-if_known g c = λ work m input files faults now stores later n q at fs. record {
  out = (0, omega arith, column_run_sink_grows_by_none (g.O.Sink.written c.args.out.now));
  err = subst (SinkGrowsByPrefix (g.E.Sink.written c.args.err.now) (g.E.Sink.written c.put_all.new.sink))
      (c.as_slice.ensures.value ∙ at.err) c.in_default.ensures.front;
}

pub returns-clause-if_known : goal.returns-clause-if_known
returns-clause-if_known g c = λ work m input files faults now stores later n q at fs.
    let before : SessionOutside = record {
      input_left = g.S.Source.left c.args.src.now;
      out = g.O.Sink.written c.args.out.now;
      err = g.E.Sink.written c.args.err.now;
      files = files;
      fetch_faults = faults;
      store_faults = stores;
      steps = n;
    } in
    let after : SessionOutside = record {
      input_left = g.S.Source.left c.run-end.new.src;
      out = g.O.Sink.written c.run-end.new.out;
      err = g.E.Sink.written c.put_all.new.sink;
      files = files;
      fetch_faults = now;
      store_faults = later;
      steps = c.run-end.new.steps;
    } in
    subst
    (λ (st : Status). IsRunColumnOutput (column_run work m input).output (column_run work m input).status st before
    after)
    (sym c.status_of.ensures)
    (converted work m input before after
    (c.in-Ok.ensures.all ∙ ap (sink_bytes_append (g.E.Sink.written c.args.err.now)) (c.as_slice.ensures.value ∙ at.err))
    fs
    c.run-end.result
    (subst
    (λ (rs : List ColumnRow). AreColumnRunRowsWritten rs c.run-end.result (g.O.Sink.written c.args.out.now)
    (g.O.Sink.written c.run-end.new.out))
    (rows_same work c.args.self n c.args.steps.now at input)
    (c.run-end.ensures.if_known input q))
    (λ over.
    steps_same work c.args.self n c.args.steps.now at c.leaves_law.ensures input c.run-end.new.self.table
    c.run-end.new.steps
    (c.run-end.ensures.queries input q over)))

pub returns-clause-ends : goal.returns-clause-ends
returns-clause-ends g c = λ s.
    subst IsWorkedRunEnd (sym c.status_of.ensures)
    (stated_column_end_is_worked_run c.run-end.result (subst IsStatedRunEnd c.status_of.ensures s))

pub returns-in_default-clause-noticed : goal.returns-in_default-clause-noticed
returns-in_default-clause-noticed g c = inl (refl, refl)

pub returns-clause-noticed : goal.returns-clause-noticed
returns-clause-noticed g c =
    inr (c.in-Ok.ensures.all ∙ ap (sink_bytes_append (g.E.Sink.written c.args.err.now)) c.as_slice.ensures.value)
