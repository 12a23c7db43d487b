use Rattle.std.proofs.Common.{◌∙◌, ◌++◌, ◌||◌, List, ap, arith, not, refl, subst, sym, ℕ}
use Rattle.def_lines.specs.Words.{is_empty}
use Rattle.units_io.specs.Bytes.{sink_bytes_append, SinkGrowsByPrefix}
use Rattle.units_run.specs.Checks.{IsRunReportWritten}
use Rattle.units_run.specs.declared.status.Status.{Status}
use Rattle.units_run.proofs.ReportBlocks.{follows_over, front_next, front_now, lines_of, run_report_without_places}
use Rattle.units_run.proofs.ReportBlocks.{underway_next, underway_start, written_over}
use Rattle.units_run.proofs.check_plan.CheckPlan.write_blocks.Goals as goal

pub loop-done-init : goal.loop-done-init
loop-done-init g c = record {
  later = omega arith;
  right = c.requires.right;
  at = underway_start c.args.self.now.options c.args.places.now c.args.self.now.notices.items
      (g.O.Sink.written c.args.out.now)
      c.args.self.now.table c.args.steps.now c.requires.right;
}

pub returns-in_default-clause-written : goal.returns-in_default-clause-written
returns-in_default-clause-written g c =
    front_now c.args.self.now.options c.args.places.now c.args.self.now.notices.items (g.O.Sink.written c.args.out.now)
    c.args.self.now.table c.args.steps.now c.loop-done.rest.now c.loop-done.lines.items c.loop-done.any
    (g.O.Sink.written c.loop-done.out) c.loop-done.table c.loop-done.steps c.loop-done.invariant.at

pub returns-in_default-put_all-clause-written : goal.returns-in_default-put_all-clause-written
returns-in_default-put_all-clause-written g c =
    front_next c.args.self.now.options c.args.places.now c.args.self.now.notices.items (g.O.Sink.written c.args.out.now)
    c.args.self.now.table c.args.steps.now c.loop-done.rest.now c.loop-done.lines.items c.loop-done.any
    (g.O.Sink.written c.loop-done.out) c.loop-done.table c.loop-done.steps c.loop-done.invariant.at c.in-Ok.done
    c.put_check_block.new.lines.items c.put_check_block.new.table c.put_check_block.new.steps c.in-Ok.ensures.lines
    c.put_check_block.ensures.deck c.in-Ok.ensures.queries (g.O.Sink.written c.put_all.new.sink)
    (subst (SinkGrowsByPrefix (g.O.Sink.written c.loop-done.out) (g.O.Sink.written c.put_all.new.sink))
    c.as_slice.ensures.value c.put_all.ensures.front)

pub returns-then-is_empty-clause-written : goal.returns-then-is_empty-clause-written
returns-then-is_empty-clause-written g c =
    subst
    (λ (ending : Status). IsRunReportWritten
    (c.args.self.now.notices.items ++ lines_of c.args.self.now.table.deck c.args.self.now.options c.args.places.now)
    ending
    (g.O.Sink.written c.args.out.now) (g.O.Sink.written c.put_all.new.sink))
    (sym c.report_status.ensures)
    (written_over c.args.self.now.options c.args.places.now c.args.self.now.notices.items
    (g.O.Sink.written c.args.out.now)
    c.args.self.now.table c.args.steps.now _ _ _ _ _ _
    (underway_next c.args.self.now.options c.args.places.now c.args.self.now.notices.items
    (g.O.Sink.written c.args.out.now)
    c.args.self.now.table c.args.steps.now c.loop-done.rest.now c.loop-done.lines.items c.loop-done.any
    (g.O.Sink.written c.loop-done.out) c.loop-done.table c.loop-done.steps c.loop-done.invariant.at c.in-Ok.done
    c.put_check_block.new.lines.items c.put_check_block.new.table c.put_check_block.new.steps c.in-Ok.ensures.lines
    c.put_check_block.ensures.deck c.in-Ok.ensures.queries _ c.clear.new.self.items
    (g.O.Sink.written c.put_all.new.sink)
    c.has_bytes-any.result refl c.clear.ensures.items
    (c.in-Ok-put_all.ensures.all ∙ ap (sink_bytes_append (g.O.Sink.written c.loop-done.out)) c.as_slice.ensures.value)
    (c.has_bytes-any.ensures
    ∙ ap (λ (bytes : List ℕ). c.loop-done.any || not (is_empty bytes)) c.as_slice-in-loop-done.ensures.value))
    (run_report_without_places _ _ c.is_empty.ensures c.if-is_empty.true) c.clear.ensures.items)

pub returns-then-is_empty-clause-queries : goal.returns-then-is_empty-clause-queries
returns-then-is_empty-clause-queries g c = λ worked.
    follows_over c.args.self.now.options c.args.places.now c.args.self.now.notices.items
    (g.O.Sink.written c.args.out.now)
    c.args.self.now.table c.args.steps.now _ _ _ _ _ _
    (underway_next c.args.self.now.options c.args.places.now c.args.self.now.notices.items
    (g.O.Sink.written c.args.out.now)
    c.args.self.now.table c.args.steps.now c.loop-done.rest.now c.loop-done.lines.items c.loop-done.any
    (g.O.Sink.written c.loop-done.out) c.loop-done.table c.loop-done.steps c.loop-done.invariant.at c.in-Ok.done
    c.put_check_block.new.lines.items c.put_check_block.new.table c.put_check_block.new.steps c.in-Ok.ensures.lines
    c.put_check_block.ensures.deck c.in-Ok.ensures.queries _ c.clear.new.self.items
    (g.O.Sink.written c.put_all.new.sink)
    c.has_bytes-any.result refl c.clear.ensures.items
    (c.in-Ok-put_all.ensures.all ∙ ap (sink_bytes_append (g.O.Sink.written c.loop-done.out)) c.as_slice.ensures.value)
    (c.has_bytes-any.ensures
    ∙ ap (λ (bytes : List ℕ). c.loop-done.any || not (is_empty bytes)) c.as_slice-in-loop-done.ensures.value))
    (run_report_without_places _ _ c.is_empty.ensures c.if-is_empty.true) c.clear.ensures.items

pub loop-done-preserved : goal.loop-done-preserved
loop-done-preserved g c = record {
  later = omega (arith, c.loop-done.invariant.later, c.put_all.ensures.cause.count_grows);
  right = c.in-Ok.ensures.queries.is_right;
  at = underway_next c.args.self.now.options c.args.places.now c.args.self.now.notices.items
      (g.O.Sink.written c.args.out.now)
      c.args.self.now.table c.args.steps.now c.loop-done.rest.now c.loop-done.lines.items c.loop-done.any
      (g.O.Sink.written c.loop-done.out) c.loop-done.table c.loop-done.steps c.loop-done.invariant.at c.in-Ok.done
      c.put_check_block.new.lines.items c.put_check_block.new.table c.put_check_block.new.steps c.in-Ok.ensures.lines
      c.put_check_block.ensures.deck c.in-Ok.ensures.queries _ c.clear.new.self.items
      (g.O.Sink.written c.put_all.new.sink)
      c.has_bytes-any.result refl c.clear.ensures.items
      (c.in-Ok-put_all.ensures.all ∙ ap (sink_bytes_append (g.O.Sink.written c.loop-done.out)) c.as_slice.ensures.value)
      (c.has_bytes-any.ensures
      ∙ ap (λ (bytes : List ℕ). c.loop-done.any || not (is_empty bytes)) c.as_slice-in-loop-done.ensures.value);
}
