use Rattle.std.proofs.Common.{◌≡◌, ◌∙◌, ◌<◌, length, sym, ap, subst, arith}
use Rattle.deck.specs.Tables.{table_of_deck}
use Rattle.units_io.specs.Bytes.{sink_bytes_append, SinkGrowsByPrefix}
use Rattle.live_table.specs.TableView.{IsAfterLiveEvents}
use Rattle.column_convert.specs.Blocks.{is_error_row, text_of_rows}
use Rattle.column_convert.specs.Inputs.{ColumnInput}
use Rattle.column_convert.specs.Rows.{queries, rows}
use Rattle.column_convert.specs.declared.block.Block.{Block}
use Rattle.units_run.proofs.ColumnBlocks.{IsColumnRunUnderway, column_run_follows_over, column_run_front_next}
use Rattle.units_run.proofs.ColumnBlocks.{column_run_front_now, column_run_of_equal_texts, column_run_records_get_fewer}
use Rattle.units_run.proofs.ColumnBlocks.{column_run_refused_over, column_run_underway_next, column_run_underway_start}
use Rattle.units_run.proofs.ColumnBlocks.{column_run_whole_over}
use Rattle.units_run.proofs.WrittenBytes.{column_run_front_of_all}
use Rattle.units_run.proofs.column_task.ColumnTask.write_rows.Goals as goal

pub loop-block-init : goal.loop-block-init
loop-block-init g c = record {
  later = omega arith;
  at = column_run_underway_start c.args.self.now.options c.as_bytes-from.result.now c.as_bytes-to.result.now
      c.args.columns.now (g.O.Sink.written c.args.out.now) c.args.self.now.table c.args.steps.now
      c.outcomes_are_right.ensures;
}

pub returns-in_err-block-clause-front : goal.returns-in_err-block-clause-front
returns-in_err-block-clause-front g c =
    let task = c.args.self.now in
    column_run_of_equal_texts
    (λ from to. SinkGrowsByPrefix (g.O.Sink.written c.args.out.now) (g.O.Sink.written c.loop-block.out)
    (text_of_rows (rows (table_of_deck task.table.deck) task.options from to c.args.columns.now)))
    c.as_bytes-from.ensures c.as_bytes-to.ensures
    (column_run_front_now c.args.self.now.options c.as_bytes-from.result.now c.as_bytes-to.result.now c.args.columns.now
    (g.O.Sink.written c.args.out.now)
    c.args.self.now.table c.args.steps.now c.loop-block.columns c.loop-block.refused (g.O.Sink.written c.loop-block.out)
    c.loop-block.table c.loop-block.steps c.loop-block.invariant.at)

pub returns-then-block-eq0-clause-whole : goal.returns-then-block-eq0-clause-whole
returns-then-block-eq0-clause-whole g c =
    let task = c.args.self.now in
    column_run_of_equal_texts
    (λ from to. g.O.Sink.written c.loop-block.out ≡ sink_bytes_append (g.O.Sink.written c.args.out.now)
    (text_of_rows (rows (table_of_deck task.table.deck) task.options from to c.args.columns.now)))
    c.as_bytes-from.ensures c.as_bytes-to.ensures
    (column_run_whole_over c.args.self.now.options c.as_bytes-from.result.now c.as_bytes-to.result.now
    c.args.columns.now (g.O.Sink.written c.args.out.now)
    c.args.self.now.table c.args.steps.now c.loop-block.columns c.loop-block.refused (g.O.Sink.written c.loop-block.out)
    c.loop-block.table c.loop-block.steps c.loop-block.invariant.at 1023 c.next_rows.new.table c.next_rows.new.steps
    c.in_ok-block.ensures.queries c.in_ok-block.block c.in_ok-block.ensures.block c.if-block-eq0.true)

pub returns-then-block-eq0-clause-front : goal.returns-then-block-eq0-clause-front
returns-then-block-eq0-clause-front g c = column_run_front_of_all _ _ _ (returns-then-block-eq0-clause-whole g c)

pub returns-then-block-eq0-clause-refused : goal.returns-then-block-eq0-clause-refused
returns-then-block-eq0-clause-refused g c =
    let task = c.args.self.now in
    column_run_of_equal_texts
    (λ from to. c.loop-block.refused ≡ is_error_row
    (rows (table_of_deck task.table.deck) task.options from to c.args.columns.now))
    c.as_bytes-from.ensures c.as_bytes-to.ensures
    (column_run_refused_over c.args.self.now.options c.as_bytes-from.result.now c.as_bytes-to.result.now
    c.args.columns.now (g.O.Sink.written c.args.out.now)
    c.args.self.now.table c.args.steps.now c.loop-block.columns c.loop-block.refused (g.O.Sink.written c.loop-block.out)
    c.loop-block.table c.loop-block.steps c.loop-block.invariant.at 1023 c.next_rows.new.table c.next_rows.new.steps
    c.in_ok-block.ensures.queries c.in_ok-block.block c.in_ok-block.ensures.block c.if-block-eq0.true)

pub returns-then-block-eq0-clause-queries : goal.returns-then-block-eq0-clause-queries
returns-then-block-eq0-clause-queries g c =
    let task = c.args.self.now in
    column_run_of_equal_texts
    (λ from to. IsAfterLiveEvents (queries (table_of_deck task.table.deck) task.options from to c.args.columns.now)
    task.table c.next_rows.new.table c.args.steps.now c.next_rows.new.steps)
    c.as_bytes-from.ensures c.as_bytes-to.ensures
    (column_run_follows_over c.args.self.now.options c.as_bytes-from.result.now c.as_bytes-to.result.now
    c.args.columns.now (g.O.Sink.written c.args.out.now)
    c.args.self.now.table c.args.steps.now c.loop-block.columns c.loop-block.refused (g.O.Sink.written c.loop-block.out)
    c.loop-block.table c.loop-block.steps c.loop-block.invariant.at 1023 c.next_rows.new.table c.next_rows.new.steps
    c.in_ok-block.ensures.queries c.in_ok-block.block c.in_ok-block.ensures.block c.if-block-eq0.true)

pub returns-in-Err-clause-front : goal.returns-in-Err-clause-front
returns-in-Err-clause-front g c =
    let task = c.args.self.now in
    column_run_of_equal_texts
    (λ from to. SinkGrowsByPrefix (g.O.Sink.written c.args.out.now) (g.O.Sink.written c.put_all.new.sink)
    (text_of_rows (rows (table_of_deck task.table.deck) task.options from to c.args.columns.now)))
    c.as_bytes-from.ensures c.as_bytes-to.ensures
    (column_run_front_next c.args.self.now.options c.as_bytes-from.result.now c.as_bytes-to.result.now
    c.args.columns.now (g.O.Sink.written c.args.out.now)
    c.args.self.now.table c.args.steps.now c.loop-block.columns c.loop-block.refused (g.O.Sink.written c.loop-block.out)
    c.loop-block.table c.loop-block.steps c.loop-block.invariant.at c.blocks_law.ensures 1024 c.next_rows.new.table
    c.next_rows.new.steps c.next_rows.ensures.deck c.in_ok-block.ensures.queries c.in_ok-block.block
    c.in_ok-block.ensures.block (g.O.Sink.written c.put_all.new.sink)
    (subst (SinkGrowsByPrefix (g.O.Sink.written c.loop-block.out) (g.O.Sink.written c.put_all.new.sink))
    c.as_bytes.ensures c.in-Err.ensures.front))

pub loop-block-smaller : goal.loop-block-smaller
loop-block-smaller g c =
    subst (λ (i : ColumnInput). length i.records < length c.loop-block.columns.records) (sym c.in_ok-block.ensures.left)
    (column_run_records_get_fewer (table_of_deck c.loop-block.table.deck) c.args.self.now.options
    c.as_bytes-from.result.now c.as_bytes-to.result.now
    1023 c.loop-block.columns
    c.in_ok-block.block.rows (ap (λ (b : Block). b.rows) c.in_ok-block.ensures.block) c.if-block-eq0.false)

pub loop-block-preserved : goal.loop-block-preserved
loop-block-preserved g c = record {
  later = omega (arith, c.loop-block.invariant.later, c.put_all.ensures.cause.count_grows);
  at = subst
      (λ (i : ColumnInput). IsColumnRunUnderway c.args.self.now.options c.as_bytes-from.result.now
      c.as_bytes-to.result.now c.args.columns.now
      (g.O.Sink.written c.args.out.now) c.args.self.now.table c.args.steps.now i c.either-refused.result
      (g.O.Sink.written c.put_all.new.sink) c.next_rows.new.table c.next_rows.new.steps)
      (sym c.in_ok-block.ensures.left)
      (column_run_underway_next c.args.self.now.options c.as_bytes-from.result.now c.as_bytes-to.result.now
      c.args.columns.now
      (g.O.Sink.written c.args.out.now) c.args.self.now.table c.args.steps.now c.loop-block.columns c.loop-block.refused
      (g.O.Sink.written c.loop-block.out) c.loop-block.table c.loop-block.steps c.loop-block.invariant.at
      c.blocks_law.ensures 1024 c.next_rows.new.table c.next_rows.new.steps c.next_rows.ensures.deck
      c.in_ok-block.ensures.queries c.in_ok-block.block c.in_ok-block.ensures.block c.either-refused.result
      (g.O.Sink.written c.put_all.new.sink) c.either-refused.ensures
      (c.in-Ok.ensures.all ∙ ap (sink_bytes_append (g.O.Sink.written c.loop-block.out)) c.as_bytes.ensures));
}
