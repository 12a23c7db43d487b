use Rattle.std.proofs.Common.{◌∙◌, map, sym}
use Rattle.edit_history.specs.Timelines.{history_timeline}
use Rattle.edit_history.specs.Versions.{history_version}
use Rattle.session.specs.Answers.{session_watch_answer}
use Rattle.session.specs.Sessions.{session_and_files, session_in}
use Rattle.session.specs.Versions.{session_versions}
use Rattle.session.specs.WatchQueries.{is_session_watch_list_full}
use Rattle.session.specs.declared.fault.SessionFault.{SessionFault}
use Rattle.session.proofs.SessionParts.{session_answer_at_equal_deck}
use Rattle.session.proofs.Watches.{watch_answered}
use Rattle.session.proofs.workspace.Workspace.watch.Goals as goal
use Rattle.std.specs.Prelude.{Ok}
use Rattle.watch.specs.WatchViews.{subject_of_watch, watch_subject}
use Rattle.watch.specs.declared.fault.WatchFault.TheVariants.{TooMany}
use Rattle.general_lemmas.proofs.Results.{err-ok}

pub returns-in-Ok-clause-answer : goal.returns-in-Ok-clause-answer
returns-in-Ok-clause-answer g c = λ m.
    let old = c.args.self.now in
    let added = c.in-Ok.ensures {u = tt} in
    let subject = watch_subject c.args.from.now c.args.to.now in
    session_answer_at_equal_deck {E = SessionFault}
    (session_watch_answer (is_session_watch_list_full (map subject_of_watch old.watches)) subject
    (session_and_files (session_in old) m))
    (Ok c.output_reply.result) old.options c.add.new.table old.table.deck old.history old.pending
    (map subject_of_watch c.add.new.self) c.args.steps.now c.add.new.steps c.add.ensures.deck
    (watch_answered old.options old.pending
    (session_versions (history_timeline old.history (history_version old.table.deck))) m
    old.table c.add.new.table old.watches c.add.new.self subject c.output_reply.result c.args.steps.now
    c.add.new.steps
    (λ e. err-ok TooMany c.in-Ok.text (sym (added.full.1 e))) (c.output_reply.ensures.out ∙ added.text)
    c.output_reply.ensures.err
    added.added added.queries c.add.ensures.deck)
