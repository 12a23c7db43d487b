use Rattle.std.proofs.Common.{◌≡◌, ◌∙◌, [], Some, false, IfOk, OnOk, sym, subst, ap, refl, arith, true≢false}
use Rattle.units_io.specs.FileMap.{FileMap}
use Rattle.deck.specs.Decks.{DeckContents}
use Rattle.deck_save.specs.SavedText.{saved_file}
use Rattle.session.specs.AnswerEffects.{IsSessionLineAnswered, session_scene}
use Rattle.session.specs.Answers.{files_after_session_save, session_save_reply}
use Rattle.session.specs.Commands.{Command, is_session_load, is_session_quit, is_session_save}
use Rattle.session.specs.Commands.{session_command_names_file, session_command_of_line, session_line_save_name}
use Rattle.session.specs.Commands.{session_save_name}
use Rattle.session.specs.Parts.{IsSessionAnswerGiven, IsSessionLineReply}
use Rattle.session.specs.Sessions.{SessionState, session_and_files, session_in}
use Rattle.session.specs.Steps.{session_answer_to}
use Rattle.session.proofs.LineAnswers.{given_session_answer_is_complete, needed_session_files_are_known}
use Rattle.session.proofs.LineAnswers.{other_session_command_is_no_save, session_save_is_answered}
use Rattle.session.proofs.BrokenAnswers.{session_line_keeps_same_files, session_line_saves_named_file}
use Rattle.session.proofs.FetchFaultCounts.{session_fetch_faults_unchanged}
use Rattle.session.proofs.session.Session.line.Goals as goal

pub returns-in-Load-clause-answer : goal.returns-in-Load-clause-answer
returns-in-Load-clause-answer g c = λ m h.
    let now = session_in c.load.new.self in
    let before = session_in c.self.inside.workspace in
    given_session_answer_is_complete c.load.result c.args.self.now now m (session_command_of_line c.args.line.now) _ _ _
    c.args.steps.now
    c.load.new.steps h c.load.ensures.kept (sym (ap is_session_save (c.in-Load.ensures {u = tt})))
    (subst (λ (k : SessionState).
    IsSessionAnswerGiven (session_answer_to (session_and_files k m) (session_command_of_line c.args.line.now))
    c.load.result
    now c.args.steps.now c.load.new.steps)
    c.self.view_is
    (subst (λ (a : Command). IsSessionAnswerGiven (session_answer_to (session_and_files before m) a) c.load.result now
    c.args.steps.now
    c.load.new.steps)
    (c.in-Load.ensures {u = tt})
    (c.load.ensures.answer m
    (needed_session_files_are_known _ _ m (sym (ap is_session_load (c.in-Load.ensures {u = tt}))) h))))

pub returns-in-Save-clause-answer : goal.returns-in-Save-clause-answer
returns-in-Save-clause-answer g c = λ m h.
    subst
    (λ (a : Command). IsSessionLineAnswered (session_answer_to (session_and_files c.args.self.now m) a) c.save.result
    (session_scene c.args.self.now (g.F.Files.files c.args.files.now) c.args.steps.now)
    (session_scene c.args.self.now (g.F.Files.files c.save.new.files) c.args.steps.now))
    (c.in-Save.ensures {u = tt})
    (session_save_is_answered c.save.result c.args.self.now m c.in-Save.name.now _ _ _ c.args.steps.now h
    (subst
    (λ (d : DeckContents). IfOk c.save.result
    (λ reply. IsSessionLineReply reply (session_save_reply (saved_file d) c.in-Save.name.now) [] false))
    (c.deck.ensures.deck ∙ ap (λ (k : SessionState). k.table.deck) c.self.view_is) c.save.ensures.line)
    (subst
    (λ (d : DeckContents).
    OnOk c.save.result ((files_if_known : FileMap) → g.F.Files.files c.args.files.now ≡ Some files_if_known
    → g.F.Files.files c.save.new.files ≡ Some
    (files_after_session_save (saved_file d) c.in-Save.name.now files_if_known)))
    (c.deck.ensures.deck ∙ ap (λ (k : SessionState). k.table.deck) c.self.view_is) c.save.ensures.saved)
    c.save.ensures.if_unknown)

pub returns-in_default-clause-answer : goal.returns-in_default-clause-answer
returns-in_default-clause-answer g c = λ m h.
    let now = session_in c.perform.new.self in
    let before = session_in c.self.inside.workspace in
    given_session_answer_is_complete c.perform.result c.args.self.now _ m (session_command_of_line c.args.line.now) _ _
    _ c.args.steps.now
    c.perform.new.steps h refl
    (sym (ap is_session_save c.read_command.ensures) ∙ other_session_command_is_no_save c.read_command.result
    c.in_default.not-Save)
    (subst (λ (k : SessionState).
    IsSessionAnswerGiven (session_answer_to (session_and_files k m) (session_command_of_line c.args.line.now))
    c.perform.result
    now c.args.steps.now c.perform.new.steps)
    c.self.view_is
    (subst (λ (a : Command). IsSessionAnswerGiven (session_answer_to (session_and_files before m) a) c.perform.result
    now c.args.steps.now
    c.perform.new.steps)
    c.read_command.ensures (c.perform.ensures.answer m)))

pub returns-in_default-clause-done : goal.returns-in_default-clause-done
returns-in_default-clause-done g c =
    subst (λ (a : Command). IfOk c.perform.result (λ reply. reply.done ≡ is_session_quit a)) c.read_command.ensures
    c.perform.ensures.done

pub returns-in_default-clause-faults : goal.returns-in_default-clause-faults
returns-in_default-clause-faults g c = record {
  fetches_counted = session_fetch_faults_unchanged _ c.perform.result c.perform.ensures.calm.0;
  cause = λ e. absurd (c.perform.ensures.calm.0 e);
  failed_write_counted = λ e. absurd (c.perform.ensures.calm.1 e);
  stores_grow = omega arith;
}

pub returns-in-Save-clause-faults : goal.returns-in-Save-clause-faults
returns-in-Save-clause-faults g c = record {
  fetches_counted = c.save.ensures.fetches ∙ session_fetch_faults_unchanged _ c.save.result c.save.ensures.unread;
  cause = λ e. absurd (c.save.ensures.unread e);
  failed_write_counted = c.save.ensures.cause;
  stores_grow = c.save.ensures.later;
}

pub returns-in-Load-clause-faults : goal.returns-in-Load-clause-faults
returns-in-Load-clause-faults g c = record {
  fetches_counted = c.load.ensures.counted;
  cause = c.load.ensures.cause;
  failed_write_counted = λ e. absurd (c.load.ensures.unwritten e);
  stores_grow = omega (arith, c.load.ensures.stores);
}

pub returns-in-Load-clause-kept : goal.returns-in-Load-clause-kept
returns-in-Load-clause-kept g c = session_line_keeps_same_files (session_line_save_name c.args.line.now) c.load.result _
    _ c.load.ensures.kept

pub returns-in-Save-clause-kept : goal.returns-in-Save-clause-kept
returns-in-Save-clause-kept g c =
    session_line_saves_named_file (session_line_save_name c.args.line.now) c.in-Save.name.now c.save.result _ _
    (ap session_save_name (c.in-Save.ensures {u = tt})) c.save.ensures.failed

pub returns-in_default-clause-kept : goal.returns-in_default-clause-kept
returns-in_default-clause-kept g c = session_line_keeps_same_files (session_line_save_name c.args.line.now)
    c.perform.result _ _ refl

pub returns-in-Load-clause-unasked : goal.returns-in-Load-clause-unasked
returns-in-Load-clause-unasked g c = λ none.
    absurd (true≢false (ap session_command_names_file (c.in-Load.ensures {u = tt}) ∙ none))

pub returns-in-Save-clause-unasked : goal.returns-in-Save-clause-unasked
returns-in-Save-clause-unasked g c = λ none.
    absurd (true≢false (ap session_command_names_file (c.in-Save.ensures {u = tt}) ∙ none))
