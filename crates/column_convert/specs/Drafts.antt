-- Rows in the making.
use Rattle.def_lines.specs.Blanks.{trimmed_of_blanks}
use Rattle.live_table.specs.TableView.{LiveView}
use Rattle.reply.specs.declared.question.Question.{Question}
use Rattle.column_convert.specs.CachedValues.{IsCellRecallRight}
use Rattle.column_convert.specs.RecordWriter.{IsIdleRecordWriter}
use Rattle.column_convert.specs.declared.draft.Draft.{Draft}

-- a draft is ready for the next row: no record is partly written, and the remembered values are right in the table
pub record IsRowDraftReady (table : LiveView) (question : Question) (draft : Draft) : Type 0 where
  pub writer_idle : IsIdleRecordWriter draft.writer
  pub memory_right : IsCellRecallRight table (trimmed_of_blanks question.from.now) question.to.now draft.memory
