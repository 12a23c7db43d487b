use Rattle.std.proofs.Common.{◌≡◌, ◌≤◌, length}
use Rattle.deck.specs.Tables.{table_of_deck}
use Rattle.watch.specs.WatchViews.{queries_of, subject_of_watch}
use Rattle.watch.proofs.QuerySequences.{AreAsked}
use Rattle.watch.proofs.Underway.{IsUnderway}
use Rattle.watch.proofs.reply_renewal.renew_all.Given as goal

abbrev pub invariant-loop-place : goal.invariant-loop-place
invariant-loop-place g l =
    (l.count ≡ length l.fn.watches.items) × (l.place ≤ l.count)
    × IsUnderway (table_of_deck l.fn.table.deck) l.options l.fn.watches.items l.watches.items l.place l.report.items
    × AreAsked (λ w. queries_of (table_of_deck l.fn.table.deck) l.options (subject_of_watch w)) l.fn.watches.items
    l.place l.fn.table
    l.table l.fn.steps l.steps
