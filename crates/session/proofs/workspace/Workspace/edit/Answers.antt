use Rattle.std.proofs.Common.{◌∙◌, [], map}
use Rattle.deck.specs.Tables.{table_of_deck as table_in}
use Rattle.session.specs.EditResults.{session_result_of_edit}
use Rattle.session.specs.CommandViews.{session_edit_view}
use Rattle.session.specs.Versions.{session_table_with_versions}
use Rattle.session.proofs.WatchReports.{made_answered, session_reports_edit_made}
use Rattle.session.proofs.workspace.Workspace.edit.Goals as goal
use Rattle.watch.specs.WatchViews.{subject_of_watch}

pub returns-in_ok-report-in-Made-clause-answer : goal.returns-in_ok-report-in-Made-clause-answer
returns-in_ok-report-in-Made-clause-answer g c = λ m.
    let old = c.args.self.now in
    let was = session_table_with_versions old.table old.history in
    let report = c.in_ok-report-in-Made.ensures {u = tt} in
    made_answered (session_result_of_edit (session_edit_view c.args.change) was) [] old.options old.pending m old.table
    old.history
    (map subject_of_watch old.watches) c.output_reply.result c.make_edit.new.table c.report_changes.new.table
    c.make_edit.new.history (map subject_of_watch c.report_changes.new.watches) c.args.steps.now
    c.report_changes.new.steps
    (session_reports_edit_made _ c.in_ok-make_edit.field-0 _ _ c.in-Made.is (c.in_ok-make_edit.ensures {u = tt}).edit)
    report.queries
    c.report_changes.ensures.deck report.watched
    (c.output_reply.ensures.out ∙ report.reported_changes (table_in old.table.deck) c.requires.parts.2)
    c.output_reply.ensures.err
