use Rattle.std.proofs.lemmas.Result.{err_from_is_err_and}
use Rattle.deck.specs.Tables.{table_of_deck}
use Rattle.watch.specs.WatchViews.{queries_of, watch_subject}
use Rattle.watch.proofs.CutQueries.{failed_watch_queries_are_cut_off}
use Rattle.watch.proofs.watches.Watches.add.Goals as goal

pub returns-in_err-put_notice-clause-queries : goal.returns-in_err-put_notice-clause-queries
returns-in_err-put_notice-clause-queries g c =
    let failed = c.from_residual-in_err-put_notice in
    let p = err_from_is_err_and failed.result failed.ensures.1 in
    failed_watch_queries_are_cut_off (queries_of (table_of_deck c.args.table.now.deck) c.args.options.now
    (watch_subject c.args.from.now c.args.to.now))
    failed.result p.0 c.args.table.now c.watch_on.new.table c.args.steps.now c.watch_on.new.steps p.1 p.2
    c.in_ok-watch.ensures.deck c.in_ok-watch.ensures.queries

pub returns-in_err-push-clause-queries : goal.returns-in_err-push-clause-queries
returns-in_err-push-clause-queries g c =
    let failed = c.from_residual-in_err-push in
    let p = err_from_is_err_and failed.result failed.ensures.1 in
    failed_watch_queries_are_cut_off (queries_of (table_of_deck c.args.table.now.deck) c.args.options.now
    (watch_subject c.args.from.now c.args.to.now))
    failed.result p.0 c.args.table.now c.watch_on.new.table c.args.steps.now c.watch_on.new.steps p.1 p.2
    c.in_ok-watch.ensures.deck c.in_ok-watch.ensures.queries
