use Rattle.std.proofs.Common.{◌∙◌, ap, map, sym}
use Rattle.deck.specs.Decks.{DeckContents}
use Rattle.deck.specs.FileLoads.{deck_after_appending}
use Rattle.deck.specs.Tables.{table_of_deck as table_in}
use Rattle.session.specs.DeckEdits.{notice_lines}
use Rattle.session.specs.EditResults.{Refused, session_edit_result}
use Rattle.session.specs.Lines.{session_lines_of_texts}
use Rattle.session.specs.Steps.{session_answer_to}
use Rattle.session.specs.Versions.{session_table_with_versions}
use Rattle.session.proofs.EditOutcomes.{equal_session_tables_and_versions, session_edit_is_made}
use Rattle.session.proofs.LoadRefusals.{session_load_refusal}
use Rattle.session.proofs.WatchReports.{made_answered, refused_answered}
use Rattle.session.proofs.workspace.Workspace.load.Goals as goal
use Rattle.watch.specs.WatchViews.{subject_of_watch}

pub returns-in_ok-notices-in-Ok-clause-answer : goal.returns-in_ok-notices-in-Ok-clause-answer
unfolding session_answer_to
returns-in_ok-notices-in-Ok-clause-answer g c = λ m files.
    let old = c.args.self.now in
    let was = session_table_with_versions old.table old.history in
    let outcome = deck_after_appending m c.args.name.now old.table.deck in
    let made = c.in-Ok.ensures.known m files in
    let report = c.in_ok-report-in-Ok.ensures {u = tt} in
    made_answered (session_edit_result outcome c.args.name.now was) (notice_lines outcome) old.options old.pending m
    old.table
    old.history (map subject_of_watch old.watches) _ c.append_file.new.table c.report_changes.new.table
    c.append_file.new.history
    (map subject_of_watch c.report_changes.new.watches) c.args.steps.now c.report_changes.new.steps
    (session_edit_is_made c.histories_are_timelines.ensures outcome c.args.name.now old.table c.append_file.new.table
    old.history
    c.append_file.new.history made c.in-Ok.ensures.ok c.in-Ok.ensures.noted) report.queries
    c.report_changes.ensures.deck
    report.watched (report.reported_changes (table_in old.table.deck) c.requires.parts.2)
    (c.from.ensures ∙ c.in_ok-notices-in-Ok.ensures {u = tt}
    ∙ ap (λ (d : DeckContents). session_lines_of_texts d.notices) (c.deck.ensures.deck ∙ c.report_changes.ensures.deck)
    ∙ ap notice_lines (sym made))

pub returns-in_ok-refusal_line-in-Err-clause-answer : goal.returns-in_ok-refusal_line-in-Err-clause-answer
unfolding session_answer_to
returns-in_ok-refusal_line-in-Err-clause-answer g c = λ m files.
    let old = c.args.self.now in
    let was = session_table_with_versions old.table old.history in
    let outcome = deck_after_appending m c.args.name.now old.table.deck in
    let line = c.in_ok-refusal_line-in-Err.ensures {u = tt} in
    refused_answered (session_edit_result outcome c.args.name.now was) (notice_lines outcome) old.options old.pending m
    old.table old.history (map subject_of_watch old.watches) c.output_reply.result
    (session_table_with_versions c.append_file.new.table c.append_file.new.history) c.args.steps.now
    (ap (λ o. session_edit_result o c.args.name.now was)
    (session_load_refusal outcome c.in-Err.fault line.is_refusal (c.in-Err.ensures.known m files))
    ∙ ap Refused (sym (c.output_reply.ensures.out ∙ line.line)))
    (equal_session_tables_and_versions old.table c.append_file.new.table old.history c.append_file.new.history
    c.in-Err.ensures.err
    c.in-Err.ensures.noted)
    c.output_reply.ensures.err
