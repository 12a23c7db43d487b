use Rattle.std.proofs.Common.{◌≡◌, List, subst, ap}
use Rattle.std.specs.Prelude.{IfOk}
use Rattle.deck.specs.Tables.{table_of_deck as table_of}
use Rattle.live_table.specs.Calls.{AreLiveQueries}
use Rattle.live_table.specs.States.{LiveEvent}
use Rattle.reply.specs.Replies.{conversion_queries}
use Rattle.reply.specs.declared.reply.Reply.{Reply}
use Rattle.reply.proofs.Runs.{inquiry_queries_made_or_cut}
use Rattle.column_convert.specs.Cells as spec
use Rattle.column_convert.proofs.CutQueries.{no_cell_query_before_memory_end}
use Rattle.column_convert.proofs.CellReplies.{asked_queries, asked_reply}
use Rattle.column_convert.proofs.cell.number_cell.Goals as goal

pub returns-in_err-asked-clause-queries : goal.returns-in_err-asked-clause-queries
returns-in_err-asked-clause-queries g c =
    no_cell_query_before_memory_end _ c.from_residual.result _ c.args.table.now c.args.steps.now
    c.from_residual.ensures.1
    c.outcomes_are_right.ensures

pub returns-clause-cell : goal.returns-clause-cell
returns-clause-cell g c =
    subst (λ (w : Reply). IfOk c.cell_of.result (λ cell. cell ≡ spec.cell_of_reply w))
    (asked_reply (table_of c.args.table.now.deck) c.args.question.now.options.now c.args.question.now.from.now
    c.args.question.now.to.now c.args.number.now
    (table_of c.deck.result.now) c.cell_options.result c.in_ok-asked.asked c.as_bytes.result.now
    (ap table_of c.deck.ensures.deck) c.cell_options.ensures.is c.in_ok-asked.ensures c.as_bytes.ensures
    c.in_ok-reply.reply c.in_ok-reply.ensures.reply)
    c.cell_of.ensures

pub returns-clause-queries : goal.returns-clause-queries
returns-clause-queries g c =
    subst (λ (es : List LiveEvent).
    AreLiveQueries es c.cell_of.result c.args.table.now c.convert_reply.new.table c.args.steps.now
    c.convert_reply.new.steps)
    (asked_queries (table_of c.args.table.now.deck) c.args.question.now.options.now c.args.question.now.from.now
    c.args.question.now.to.now c.args.number.now
    (table_of c.deck.result.now) c.cell_options.result c.in_ok-asked.asked c.as_bytes.result.now
    (ap table_of c.deck.ensures.deck) c.cell_options.ensures.is c.in_ok-asked.ensures c.as_bytes.ensures)
    (inquiry_queries_made_or_cut c.cell_of.result
    (conversion_queries (table_of c.args.table.now.deck) c.cell_options.result c.as_bytes.result.now
    c.args.question.now.to.now)
    c.args.table.now c.convert_reply.new.table c.args.steps.now c.convert_reply.new.steps c.convert_reply.ensures.deck
    c.in_ok-reply.ensures.queries)
