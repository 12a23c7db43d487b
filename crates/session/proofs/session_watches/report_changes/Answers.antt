use Rattle.std.proofs.Common.{◌∙◌, Ok, Err, ap, map}
use Rattle.deck.specs.Tables.{table_of_deck as table_in}
use Rattle.session.proofs.Watches.{asked_again, same_subjects}
use Rattle.session.proofs.session_watches.report_changes.Goals as goal
use Rattle.watch.specs.WatchViews.{subject_of_watch}

pub returns-in-Ok-clause-watched : goal.returns-in-Ok-clause-watched
returns-in-Ok-clause-watched g c =
    ap (map subject_of_watch) c.in-Ok.ensures.renewed
    ∙ same_subjects (table_in c.args.table.now.deck) c.args.options.now c.args.watches.now

pub returns-in-Ok-clause-queries : goal.returns-in-Ok-clause-queries
returns-in-Ok-clause-queries g c =
    asked_again (table_in c.args.table.now.deck) c.args.options.now c.args.watches.now (Ok tt) c.args.table.now
    c.after_edit.new.table c.args.steps.now c.after_edit.new.steps c.in-Ok.ensures.queries

pub returns-in-Err-clause-queries : goal.returns-in-Err-clause-queries
returns-in-Err-clause-queries g c =
    asked_again (table_in c.args.table.now.deck) c.args.options.now c.args.watches.now (Err c.in-Err.fault)
    c.args.table.now c.after_edit.new.table c.args.steps.now c.after_edit.new.steps c.in-Err.ensures.queries
