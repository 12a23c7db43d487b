use Rattle.deck.specs.Tables.{table_of_deck}
use Rattle.reply.proofs.Runs.{inquiry_queries_made_or_cut}
use Rattle.watch.specs.WatchViews.{queries_of, watch_subject}
use Rattle.watch.proofs.watch.watch_on.Goals as goal

pub returns-in_err-from-clause-queries : goal.returns-in_err-from-clause-queries
returns-in_err-from-clause-queries g c =
    inquiry_queries_made_or_cut c.from_residual-in_err-from.result
    (queries_of (table_of_deck c.args.table.now.deck) c.args.options.now
    (watch_subject c.args.subject.now.from.now c.args.subject.now.to.now))
    c.args.table.now c.reply_bytes.new.table c.args.steps.now c.reply_bytes.new.steps
    c.in_ok-reply.ensures.deck c.in_ok-reply.ensures.queries

pub returns-in_err-to-clause-queries : goal.returns-in_err-to-clause-queries
returns-in_err-to-clause-queries g c =
    inquiry_queries_made_or_cut c.from_residual-in_err-to.result
    (queries_of (table_of_deck c.args.table.now.deck) c.args.options.now
    (watch_subject c.args.subject.now.from.now c.args.subject.now.to.now))
    c.args.table.now c.reply_bytes.new.table c.args.steps.now c.reply_bytes.new.steps
    c.in_ok-reply.ensures.deck c.in_ok-reply.ensures.queries
