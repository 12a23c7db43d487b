use Rattle.std.proofs.Common.{List, subst}
use Rattle.csv.specs.Records.{fields_of}
use Rattle.deck.specs.Tables.{table_of_deck as table_of}
use Rattle.live_table.specs.Calls.{AreLiveQueries}
use Rattle.live_table.specs.States.{LiveEvent}
use Rattle.reply.proofs.Runs.{inquiry_queries_made_or_cut}
use Rattle.column_convert.specs.Cells.{cell_queries}
use Rattle.column_convert.proofs.ItemChanges.{record_field_place_is_within}
use Rattle.column_convert.proofs.CellReplies.{field_queries}
use Rattle.column_convert.proofs.draft.Draft.write_row.Goals as goal

pub write_cell-requires-clause-place : goal.write_cell-requires-clause-place
write_cell-requires-clause-place g c =
    record_field_place_is_within (fields_of c.args.column_record.now.fields.now) c.args.column_record.now.place
    c.in-Some.field.now
    c.in-Some.ensures.value

pub returns-in_ok-cell-in-Some-clause-queries : goal.returns-in_ok-cell-in-Some-clause-queries
returns-in_ok-cell-in-Some-clause-queries g c =
    subst (λ (es : List LiveEvent).
    AreLiveQueries es c.write_cell.result c.args.table.now c.convert_cell.new.table c.args.steps.now
    c.convert_cell.new.steps)
    (field_queries (table_of c.args.table.now.deck) c.args.question.now.options.now c.args.question.now.from.now
    c.args.question.now.to.now (fields_of c.args.column_record.now.fields.now) c.args.column_record.now.place
    c.args.column_record.now.headed
    c.in-Some.field.now
    c.if-column_record.false c.in-Some.ensures.value)
    (inquiry_queries_made_or_cut c.write_cell.result
    (cell_queries (table_of c.args.table.now.deck) c.args.question.now.options.now c.args.question.now.from.now
    c.args.question.now.to.now c.in-Some.field.now)
    c.args.table.now c.convert_cell.new.table c.args.steps.now c.convert_cell.new.steps c.convert_cell.ensures.deck
    c.in_ok-cell-in-Some.ensures.queries)
