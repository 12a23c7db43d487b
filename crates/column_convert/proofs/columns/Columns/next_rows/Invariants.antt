use Rattle.std.proofs.Common.{◌-◌}
use Rattle.column_convert.specs.Drafts.{IsRowDraftReady}
use Rattle.column_convert.specs.RecordWriter.{record_writer_text}
use Rattle.column_convert.proofs.Blocks.{IsUnderway}
use Rattle.column_convert.proofs.columns.Columns.next_rows.Given as goal

abbrev pub invariant-loop-count : goal.invariant-loop-count
invariant-loop-count g l = record {
  ready : IsRowDraftReady l.table l.question l.draft;
  at : IsUnderway l.question.options.now l.question.from.now l.question.to.now l.fn.self l.most l.fn.table l.fn.steps
      l.self l.count l.any
      (record_writer_text l.draft.writer) l.table l.steps;
}

abbrev pub decreases-loop-count : goal.decreases-loop-count
decreases-loop-count g l = l.most - l.count
