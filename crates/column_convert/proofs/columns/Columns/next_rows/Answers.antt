use Rattle.std.proofs.Common.{◌∙◌, ◌+◌, ◌||◌, List, sym, ap, subst, arith}
use Rattle.std.specs.Prelude.{◌≡◌, Bool, IfOk}
use Rattle.std.specs.declared.option.Option.{Option}
use Rattle.def_lines.specs.Blanks.{trimmed_of_blanks}
use Rattle.deck.specs.Tables.{table_of_deck}
use Rattle.live_table.specs.States.{LiveEvent}
use Rattle.live_table.specs.TableView.{IsAfterLiveEvents}
use Rattle.reply.proofs.Runs.{inquiry_queries_made_or_cut}
use Rattle.column_convert.specs.Inputs.{ColumnInput}
use Rattle.column_convert.specs.Blocks.{block_of_rows}
use Rattle.column_convert.specs.declared.column_row.ColumnRow.{ColumnRow}
use Rattle.column_convert.specs.Rows.{next_row}
use Rattle.column_convert.specs.RecordWriter.{IsNextRowWritten, record_writer_text}
use Rattle.column_convert.proofs.AnyLength.{record_text_is_appended}
use Rattle.column_convert.proofs.CutQueries.{cell_queries_are_cut_off}
use Rattle.column_convert.proofs.Blocks.{IsUnderway, failed, follows_ended, none_there, result_is_block_of_rows}
use Rattle.column_convert.proofs.Blocks.{rows_at_end, rows_when_full, row_there, row_block_result_holds, underway_next}
use Rattle.column_convert.proofs.Blocks.{underway_start}
use Rattle.column_convert.proofs.KnownCells.{empty_cell_recall_is_right}
use Rattle.column_convert.proofs.columns.Columns.next_rows.Goals as goal

pub loop-count-init : goal.loop-count-init
loop-count-init g c = record {
  ready = record {
    writer_idle = c.new_writer.ensures.idle;
    memory_right = empty_cell_recall_is_right c.args.table.now (trimmed_of_blanks c.args.question.now.from.now)
        c.args.question.now.to.now
        c.new-2.result c.new-2.ensures;
  };
  at = underway_start c.args.question.now.options.now c.args.question.now.from.now c.args.question.now.to.now
      c.args.self.now c.args.most c.args.table.now
      c.args.steps.now
      (record_writer_text c.new_writer.result) c.new_writer.ensures.empty c.outcomes_are_right.ensures;
}

pub returns-in_err-refused-clause-queries : goal.returns-in_err-refused-clause-queries
returns-in_err-refused-clause-queries g c =
    let u = c.loop-count.invariant.at in
    cell_queries_are_cut_off _ c.from_residual.result _ c.args.table.now c.write_next.new.table c.args.steps.now
    c.write_next.new.steps
    c.from_residual.ensures.1
    (failed c.args.question.now.options.now c.args.question.now.from.now c.args.question.now.to.now c.args.self.now
    c.args.most c.args.table.now
    c.args.steps.now
    c.loop-count.self c.loop-count.count c.loop-count.any (record_writer_text c.loop-count.draft.writer)
    c.loop-count.table
    c.loop-count.steps u (omega (arith, c.loop-count-test.true)) c.write_next.new.table c.write_next.new.steps
    c.write_next.ensures.deck c.in_err-refused.ensures.queries)

pub returns-in_default-clause-left : goal.returns-in_default-clause-left
returns-in_default-clause-left g c =
    let u = c.loop-count.invariant.at in
    let none = none_there c.loop-count.draft.writer c.write_next.new.draft.writer _ (subst
    (λ (r : Option Bool). IsNextRowWritten c.loop-count.draft.writer c.write_next.new.draft.writer r
    (next_row (table_of_deck c.loop-count.table.deck) c.args.question.now.options.now c.args.question.now.from.now
    c.args.question.now.to.now c.loop-count.self))
    c.in_default.is c.in_ok-refused.ensures.row) in
    row_block_result_holds c.close_draft.result
    (c.in_ok-refused.ensures.left
    ∙ sym (rows_at_end c.args.question.now.options.now c.args.question.now.from.now c.args.question.now.to.now
    c.args.self.now c.args.most c.args.table.now
    c.args.steps.now
    c.loop-count.self c.loop-count.count c.loop-count.any (record_writer_text c.loop-count.draft.writer)
    c.loop-count.table
    c.loop-count.steps u none.0).1)

pub returns-in_default-clause-queries : goal.returns-in_default-clause-queries
returns-in_default-clause-queries g c =
    let u = c.loop-count.invariant.at in
    let none = none_there c.loop-count.draft.writer c.write_next.new.draft.writer _ (subst
    (λ (r : Option Bool). IsNextRowWritten c.loop-count.draft.writer c.write_next.new.draft.writer r
    (next_row (table_of_deck c.loop-count.table.deck) c.args.question.now.options.now c.args.question.now.from.now
    c.args.question.now.to.now c.loop-count.self))
    c.in_default.is c.in_ok-refused.ensures.row) in
    inquiry_queries_made_or_cut c.close_draft.result _ c.args.table.now c.write_next.new.table c.args.steps.now
    c.write_next.new.steps
    (c.write_next.ensures.deck ∙ u.deck)
    (follows_ended c.args.question.now.options.now c.args.question.now.from.now c.args.question.now.to.now
    c.args.self.now c.args.most c.args.table.now
    c.args.steps.now
    c.loop-count.self c.loop-count.count c.loop-count.any (record_writer_text c.loop-count.draft.writer)
    c.loop-count.table
    c.loop-count.steps u none.0 c.write_next.new.table c.write_next.new.steps c.in_ok-refused.ensures.queries)

pub loop-count-preserved : goal.loop-count-preserved
loop-count-preserved g c =
    let u = c.loop-count.invariant.at in
    let one = row_there c.loop-count.draft.writer c.write_next.new.draft.writer c.in-Some.refused _ (subst
    (λ (r : Option Bool). IsNextRowWritten c.loop-count.draft.writer c.write_next.new.draft.writer r
    (next_row (table_of_deck c.loop-count.table.deck) c.args.question.now.options.now c.args.question.now.from.now
    c.args.question.now.to.now c.loop-count.self))
    c.in-Some.is c.in_ok-refused.ensures.row) in
    record {
      ready = c.in_ok-refused.ensures.ready;
      at = subst
          (λ (i : ColumnInput). IsUnderway c.args.question.now.options.now c.args.question.now.from.now
          c.args.question.now.to.now c.args.self.now c.args.most
          c.args.table.now c.args.steps.now
          i (c.loop-count.count + 1) c.either-any.result (record_writer_text c.write_next.new.draft.writer)
          c.write_next.new.table
          c.write_next.new.steps)
          (sym c.in_ok-refused.ensures.left)
          (underway_next c.args.question.now.options.now c.args.question.now.from.now c.args.question.now.to.now
          c.args.self.now c.args.most c.args.table.now
          c.args.steps.now
          c.loop-count.self c.loop-count.count c.loop-count.any (record_writer_text c.loop-count.draft.writer)
          c.loop-count.table
          c.loop-count.steps u (omega (arith, c.loop-count-test.true)) c.write_next.new.table c.write_next.new.steps
          c.write_next.ensures.deck c.in_ok-refused.ensures.queries one.0 one.1 c.either-any.result
          (c.either-any.ensures ∙ ap (λ (b : Bool). c.loop-count.any || b) one.2.refused_is)
          (record_writer_text c.write_next.new.draft.writer)
          (record_text_is_appended (record_writer_text c.loop-count.draft.writer)
          (record_writer_text c.write_next.new.draft.writer) _ one.0.text u.text_is
          one.2.appends_text));
    }

pub returns-clause-left : goal.returns-clause-left
returns-clause-left g c =
    let u = c.loop-count.invariant.at in
    row_block_result_holds c.close_draft-2.result
    (sym (rows_when_full c.args.question.now.options.now c.args.question.now.from.now c.args.question.now.to.now
    c.args.self.now c.args.most c.args.table.now
    c.args.steps.now
    c.loop-count.self c.loop-count.count c.loop-count.any (record_writer_text c.loop-count.draft.writer)
    c.loop-count.table
    c.loop-count.steps u (omega (arith, c.loop-count-test.false))).2)

pub returns-clause-queries : goal.returns-clause-queries
returns-clause-queries g c =
    let u = c.loop-count.invariant.at in
    inquiry_queries_made_or_cut c.close_draft-2.result _ c.args.table.now c.loop-count.table c.args.steps.now
    c.loop-count.steps u.deck
    (subst (λ (es : List LiveEvent). IsAfterLiveEvents es c.args.table.now c.loop-count.table c.args.steps.now
    c.loop-count.steps)
    (sym (rows_when_full c.args.question.now.options.now c.args.question.now.from.now c.args.question.now.to.now
    c.args.self.now c.args.most c.args.table.now
    c.args.steps.now
    c.loop-count.self c.loop-count.count c.loop-count.any (record_writer_text c.loop-count.draft.writer)
    c.loop-count.table
    c.loop-count.steps u (omega (arith, c.loop-count-test.false))).1)
    u.follows)

pub returns-in_default-clause-block : goal.returns-in_default-clause-block
returns-in_default-clause-block g c =
    let u = c.loop-count.invariant.at in
    let none = none_there c.loop-count.draft.writer c.write_next.new.draft.writer _ (subst
    (λ (r : Option Bool). IsNextRowWritten c.loop-count.draft.writer c.write_next.new.draft.writer r
    (next_row (table_of_deck c.loop-count.table.deck) c.args.question.now.options.now c.args.question.now.from.now
    c.args.question.now.to.now c.loop-count.self))
    c.in_default.is c.in_ok-refused.ensures.row) in
    subst (λ (rs : List ColumnRow). IfOk c.close_draft.result (λ block. block ≡ block_of_rows rs))
    (sym (rows_at_end c.args.question.now.options.now c.args.question.now.from.now c.args.question.now.to.now
    c.args.self.now c.args.most c.args.table.now
    c.args.steps.now
    c.loop-count.self c.loop-count.count c.loop-count.any (record_writer_text c.loop-count.draft.writer)
    c.loop-count.table
    c.loop-count.steps u none.0).0)
    (result_is_block_of_rows c.close_draft.result (record_writer_text c.write_next.new.draft.writer) c.loop-count.count
    c.loop-count.any u.done
    c.close_draft.ensures (ap record_writer_text none.1 ∙ u.text_is) u.count_is u.refused_is)

pub returns-clause-block : goal.returns-clause-block
returns-clause-block g c =
    let u = c.loop-count.invariant.at in
    subst (λ (rs : List ColumnRow). IfOk c.close_draft-2.result (λ block. block ≡ block_of_rows rs))
    (sym (rows_when_full c.args.question.now.options.now c.args.question.now.from.now c.args.question.now.to.now
    c.args.self.now c.args.most c.args.table.now
    c.args.steps.now
    c.loop-count.self c.loop-count.count c.loop-count.any (record_writer_text c.loop-count.draft.writer)
    c.loop-count.table
    c.loop-count.steps u
    (omega (arith, c.loop-count-test.false))).0)
    (result_is_block_of_rows c.close_draft-2.result (record_writer_text c.loop-count.draft.writer) c.loop-count.count
    c.loop-count.any u.done
    c.close_draft-2.ensures u.text_is u.count_is u.refused_is)
