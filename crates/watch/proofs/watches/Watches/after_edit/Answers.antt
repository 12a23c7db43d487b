use Rattle.std.proofs.Common.{◌≡◌, ◌∙◌, List, ap, map, sym, subst}
use Rattle.deck.specs.Tables.{table_of_deck}
use Rattle.watch.specs.Changes.{watch_report}
use Rattle.watch.specs.WatchViews.{AreCurrent, change_of}
use Rattle.watch.specs.declared.watch.Watch.{Watch}
use Rattle.watch.proofs.EditReports.{edit_law, renewed_watches_are_current}
use Rattle.watch.proofs.watches.Watches.after_edit.Goals as goal

pub returns-clause-edit : goal.returns-clause-edit
returns-clause-edit g c =
    let now = table_of_deck c.args.table.now.deck in
    let options = c.args.options.now in
    let watches = c.args.self.now in
    let text : c.from.result ≡ watch_report (map (change_of now options) watches) =
    c.from.ensures
    ∙ (c.in_ok-report.ensures.report
    ∙ ap (λ (ws : List Watch). watch_report (map (change_of now options) ws)) c.self.view_is) in
    λ before current. text ∙ edit_law.report before now options watches current

pub returns-clause-current : goal.returns-clause-current
returns-clause-current g c =
    let now = table_of_deck c.args.table.now.deck in
    let options = c.args.options.now in
    subst (λ (ws : List Watch). AreCurrent now options ws) (sym c.in_ok-report.ensures.renewed)
    (renewed_watches_are_current now options c.self.inside.items.items)
