-- The answer to a line, at a point of a talk.
use Rattle.std.proofs.Common.{◌≡◌, ◌++◌, ◌∷◌, [], ℕ, List, Bool, Bor, true, false, cond, inl, refl, sym, ap, subst, ◌∙◌}
use Rattle.std.proofs.Common.{arith, append_assoc, Some, None, Ok, Err, IfOk, OnOk}
use Rattle.std.specs.Prelude.{Result}
use Rattle.std.specs.declared.option.Option.{Option}
use Rattle.units_io.specs.FileMap.{FileMap}
use Rattle.deck.specs.FileLoads.{deck_after_appending}
use Rattle.deck_save.specs.SavedText.{saved_file}
use Rattle.session.specs.AnswerEffects.{AnswersSessionLine, IsSessionLineAnswered}
use Rattle.session.specs.Answers.{SessionAnswer, files_after_session_save, session_edit_answer, session_save_reply}
use Rattle.session.specs.Answers.{session_watch_answer}
use Rattle.session.specs.Commands.{Command, is_session_save}
use Rattle.session.specs.Commands as command
use Rattle.session.specs.DeckEdits.{notice_lines}
use Rattle.session.specs.EditResults.{EditResult, Made, Refused, session_edit_result, session_result_of_edit}
use Rattle.session.specs.HeardLines.{heard_line_loads_file, heard_line_save_name, is_last_read_session_line}
use Rattle.session.specs.HeardLines.{is_last_session_line, read_session_line_loads_file, readable_session_line}
use Rattle.session.specs.HeardLines.{read_session_line_save_name}
use Rattle.session.specs.FilesLeft.{SessionLineKeepsFiles}
use Rattle.session.specs.Parts.{IsSessionAnswerGiven, IsSessionLineReply}
use Rattle.session.specs.CommandViews.{session_command_view}
use Rattle.session.specs.Sessions.{SessionAndFiles, SessionState, prompt, session_and_files, session_table_and_versions}
use Rattle.session.specs.SessionProgress.{SessionBase, IsAtPointOfTalk, BeginsTalkOutput, IsFrontOfTalk, IsTalkBroken}
use Rattle.session.specs.Steps.{session_answer_to, session_answer_to_read_line, session_blank_answer}
use Rattle.session.specs.Steps.{session_conformable_answer, session_expression_answer, session_line_answer}
use Rattle.session.specs.Talks.{SessionTrace, talk_with_answer, talk_text_of_answer}
use Rattle.session.specs.KnownContents.{IsSessionValueIfKnown, IsSessionValueKnownIfNeeded, next_session_value_if_known}
use Rattle.session.specs.WatchQueries.{is_session_watch_list_full}
use Rattle.session.specs.declared.answer.LineReply.{LineReply}
use Rattle.session.specs.declared.command.Command.{Command as Declared}
use Rattle.session.specs.declared.command.Command.TheVariants as read
use Rattle.session.specs.declared.fault.SessionFault.{SessionFault}
use Rattle.session.specs.declared.session_output.OutputBuffers.{OutputBuffers}
use Rattle.session.proofs.BrokenAnswers.{session_files_after_failed_line}
use Rattle.session.proofs.TalkParts.{talk_output_is_front_of_later}
use Rattle.watch.specs.WatchViews.{watch_subject}

-- the files do not change if nothing changes them
session_files_stay_as_known : (needed : Bool) (files : Option FileMap) (m : FileMap)
    → IsSessionValueIfKnown needed files m → files ≡ next_session_value_if_known files m
session_files_stay_as_known needed None m h = refl
session_files_stay_as_known needed (Some files_if_known) m h = ap Some h

-- if a file is needed, the contents of the files are known
pub needed_session_files_are_known : {X : Type 0} (needed : Bool) (files : Option X) (m : X) → needed ≡ true
    → IsSessionValueIfKnown needed files m
    → files ≡ Some m
needed_session_files_are_known true None m e h = cc
needed_session_files_are_known false None m e h = cc
needed_session_files_are_known needed (Some files_if_known) m e h = ap Some h

-- files with known contents can be used, needed or not
pub known_session_files_are_usable : (needed : Bool) (files : Option FileMap) (m : FileMap) → files ≡ Some m
    → IsSessionValueIfKnown needed files m
known_session_files_are_usable needed files m e = subst (λ f. IsSessionValueIfKnown needed f m) (sym e) refl

-- values that are known after being known before are those known first
session_files_known_twice : (files : Option FileMap) (m new : FileMap)
    → next_session_value_if_known (next_session_value_if_known files m) new ≡ next_session_value_if_known files new
session_files_known_twice None m new = refl
session_files_known_twice (Some old) m new = refl

-- the files can be used for a line if they are known whenever it loads a file
session_files_serve_loading_line : (loads : Bool) (files_if_known files : Option FileMap) (m : FileMap)
    → IsSessionValueKnownIfNeeded loads files_if_known
    → files ≡ next_session_value_if_known files_if_known m → IsSessionValueIfKnown loads files m
session_files_serve_loading_line loads None files m needed e = subst (λ f. IsSessionValueIfKnown loads f m)
    (sym e) needed
session_files_serve_loading_line loads (Some old) files m needed e = known_session_files_are_usable loads files m e

-- only the answer to a save changes the files
pub only_session_save_changes_files : (session : SessionState) (m : FileMap) (c : Command) → is_session_save c ≡ false
    → (session_answer_to (session_and_files session m) c).state_after.files ≡ m
unfolding session_answer_to
only_session_save_changes_files session m command.Blank unsaved = blank session.pending_from
  where
    blank : (p : Option (List ℕ)) → (session_blank_answer p (session_and_files session m)).state_after.files ≡ m
    blank None = refl
    blank (Some from) = refl
only_session_save_changes_files session m command.Quit unsaved = refl
only_session_save_changes_files session m command.Conformable unsaved = listed session.pending_from
  where
    listed : (p : Option (List ℕ)) → (session_conformable_answer p (session_and_files session m)).state_after.files ≡ m
    listed None = refl
    listed (Some from) = refl
only_session_save_changes_files session m (command.Search text) unsaved = refl
only_session_save_changes_files session m (command.Edit edit) unsaved =
    edited (session_result_of_edit edit (session_table_and_versions session)) []
  where
    edited : (r : EditResult) (notices : List ℕ)
        → (session_edit_answer r notices (session_and_files session m)).state_after.files ≡ m
    edited (Refused line) notices = refl
    edited (Made deck versions) notices = refl
only_session_save_changes_files session m (command.Load name) unsaved =
    loaded (session_edit_result (deck_after_appending m name session.table.deck) name
    (session_table_and_versions session))
  where
    loaded : (r : EditResult) → (session_edit_answer r (notice_lines (deck_after_appending m name session.table.deck))
        (session_and_files session m)).state_after.files ≡ m
    loaded (Refused line) = refl
    loaded (Made deck versions) = refl
only_session_save_changes_files session m (command.Save name) unsaved = cc
only_session_save_changes_files session m (command.Watch from to) unsaved =
    watched (is_session_watch_list_full session.watched_pairs)
  where
    watched : (full : Bool)
        → (session_watch_answer full (watch_subject from to) (session_and_files session m)).state_after.files ≡ m
    watched true = refl
    watched false = refl
only_session_save_changes_files session m command.Unwatch unsaved = refl
only_session_save_changes_files session m command.Stats unsaved = refl
only_session_save_changes_files session m (command.Unknown word) unsaved = refl
only_session_save_changes_files session m (command.Bad word) unsaved = refl
only_session_save_changes_files session m (command.Expression text) unsaved = expression session.pending_from
  where
    expression : (p : Option (List ℕ))
        → (session_expression_answer p text (session_and_files session m)).state_after.files ≡ m
    expression None = refl
    expression (Some from) = refl

-- a command of another kind is not a save
pub other_session_command_is_no_save : (c : Declared) → ((name : Bor (List ℕ)) → c ≡ read.Save name → ⊥)
    → is_session_save (session_command_view c) ≡ false
other_session_command_is_no_save read.Blank other = refl
other_session_command_is_no_save read.Quit other = refl
other_session_command_is_no_save read.Conformable other = refl
other_session_command_is_no_save (read.Search text) other = refl
other_session_command_is_no_save (read.Edit edit) other = refl
other_session_command_is_no_save (read.Load name) other = refl
other_session_command_is_no_save (read.Save name) other = absurd (other name refl)
other_session_command_is_no_save (read.Watch from to) other = refl
other_session_command_is_no_save read.Unwatch other = refl
other_session_command_is_no_save read.Stats other = refl
other_session_command_is_no_save (read.Unknown word) other = refl
other_session_command_is_no_save (read.Bad word) other = refl
other_session_command_is_no_save (read.Expression text) other = refl

-- an answer that leaves the files as they are is a complete answer
pub given_session_answer_is_complete : (result : Result LineReply SessionFault) (session new : SessionState)
    (m : FileMap) (c : Command)
    (needed : Bool) (files after : Option FileMap) (old steps : ℕ) → IsSessionValueIfKnown needed files m
    → after ≡ files
    → is_session_save c ≡ false → IsSessionAnswerGiven (session_answer_to (session_and_files session m) c) result new
    old steps
    → IsSessionLineAnswered (session_answer_to (session_and_files session m) c) result
    (record { session = session; files = files; steps = old })
    (record { session = new; files = after; steps = steps })
given_session_answer_is_complete (Err fault) session new m c needed files after old steps h e unsaved s = tt
given_session_answer_is_complete (Ok reply) session new m c needed files after old steps h e unsaved s = record {
  out = s.out;
  err = s.err;
  session = s.session;
  files = e ∙ session_files_stay_as_known needed files m h ∙ ap (next_session_value_if_known files)
      (sym (only_session_save_changes_files session m c unsaved));
  steps = s.steps;
}

-- a save was answered: it stores the text of the deck in a file, or says that the file would be too long
pub session_save_is_answered : (result : Result LineReply SessionFault) (session : SessionState) (m : FileMap)
    (name : List ℕ)
    (needed : Bool) (files after : Option FileMap) (steps : ℕ) → IsSessionValueIfKnown needed files m
    → IfOk result (λ reply. IsSessionLineReply reply (session_save_reply (saved_file session.table.deck) name) [] false)
    → OnOk result ((files_if_known : FileMap) → files ≡ Some files_if_known
    → after ≡ Some (files_after_session_save (saved_file session.table.deck) name files_if_known))
    → (files ≡ None → after ≡ None)
    → IsSessionLineAnswered (session_answer_to (session_and_files session m) (command.Save name)) result
    (record { session = session; files = files; steps = steps })
    (record { session = session; files = after; steps = steps })
unfolding session_answer_to
session_save_is_answered (Err fault) session m name needed files after steps h line saved if_unknown = tt
session_save_is_answered (Ok reply) session m name needed files after steps h line saved if_unknown = record {
  out = line.out;
  err = line.err;
  session = refl;
  files = by files refl;
  steps = omega arith;
}
  where
    by : (o : Option FileMap) → files ≡ o
        → after ≡ next_session_value_if_known files (files_after_session_save (saved_file session.table.deck) name m)
    by None e = if_unknown e ∙ sym
        (ap (λ f. next_session_value_if_known f (files_after_session_save (saved_file session.table.deck) name m)) e)
    by (Some files_if_known) e =
        let same : files_if_known ≡ m = subst (λ f. IsSessionValueIfKnown needed f m) e h in
        saved files_if_known e
        ∙ ap (λ (f : FileMap). Some (files_after_session_save (saved_file session.table.deck) name f)) same
        ∙ sym (ap (λ f. next_session_value_if_known f (files_after_session_save (saved_file session.table.deck) name m))
        e)

module _ (base : SessionBase) (talk : SessionTrace) (part : List ℕ) (buffers : OutputBuffers) (session : SessionState)
    (files : Option FileMap)
    (steps : ℕ) (at : IsAtPointOfTalk base talk
    (record { output_buffers = buffers; session = session; files = files; steps = steps }))
  where
    abbrev asked : SessionAnswer
    asked = session_line_answer talk.state part

    state_of_talk : session_and_files session talk.state.files ≡ talk.state
    state_of_talk = ap (λ s. session_and_files s talk.state.files) at.session

    -- the files of the talk can be used for a line
    pub files_serve_line : (line : Option (List ℕ)) → line ≡ readable_session_line part
        → IsSessionValueKnownIfNeeded (heard_line_loads_file part) base.files
        → IsSessionValueIfKnown (read_session_line_loads_file line) files talk.state.files
    files_serve_line line heard files_if_known =
        session_files_serve_loading_line (read_session_line_loads_file line) base.files files talk.state.files
        (subst (λ l. IsSessionValueKnownIfNeeded (read_session_line_loads_file l) base.files)
        (sym heard) files_if_known) at.files

    module _ (line : Option (List ℕ)) (heard : line ≡ readable_session_line part) (reply : LineReply)
        (session_now : SessionState)
        (files_now : Option FileMap) (steps_now : ℕ) (last : reply.done ≡ is_last_read_session_line line)
        (says : AnswersSessionLine (session_answer_to_read_line (session_and_files session talk.state.files) line) reply
        (record { session = session; files = files; steps = steps })
        (record { session = session_now; files = files_now; steps = steps_now })) where
      same : AnswersSessionLine asked reply (record { session = session; files = files; steps = steps })
          (record { session = session_now; files = files_now; steps = steps_now })
      same = subst (λ (st : SessionAndFiles). AnswersSessionLine (session_line_answer st part) reply
          (record { session = session; files = files; steps = steps })
          (record { session = session_now; files = files_now; steps = steps_now })) state_of_talk
          (subst (λ l. AnswersSessionLine (session_answer_to_read_line (session_and_files session talk.state.files) l)
          reply
          (record { session = session; files = files; steps = steps })
          (record { session = session_now; files = files_now; steps = steps_now })) heard says)

      pub done_is_last : reply.done ≡ is_last_session_line part
      done_is_last = last ∙ ap is_last_read_session_line heard

      abbrev text : List ℕ
      text = reply.out ++ cond reply.done [] (prompt session_now)

      text_spoken : text ≡ talk_text_of_answer asked part
      text_spoken =
          ap (λ t. t ++ cond reply.done [] (prompt session_now)) same.out
          ∙ ap (λ d. asked.out ++ cond d [] (prompt session_now)) done_is_last
          ∙ ap (λ s. asked.out ++ cond (is_last_session_line part) [] (prompt s)) same.session

      out_now : talk.out ++ talk_text_of_answer asked part ≡ base.out ++ (buffers.out.items ++ text)
      out_now =
          ap (λ t. t ++ talk_text_of_answer asked part) at.out ∙ append_assoc base.out buffers.out.items
          (talk_text_of_answer asked part)
          ∙ ap (λ t. base.out ++ (buffers.out.items ++ t)) (sym text_spoken)

      err_now : talk.err ++ asked.err ≡ base.err ++ (buffers.err.items ++ reply.err)
      err_now =
          ap (λ t. t ++ asked.err) at.err ∙ append_assoc base.err buffers.err.items asked.err
          ∙ ap (λ t. base.err ++ (buffers.err.items ++ t)) (sym same.err)

      files_after : files_now ≡ next_session_value_if_known base.files asked.state_after.files
      files_after =
          same.files ∙ ap (λ f. next_session_value_if_known f asked.state_after.files) at.files
          ∙ session_files_known_twice base.files talk.state.files asked.state_after.files

      -- the talk goes on with the answer
      pub replied_at : (buffers_now : OutputBuffers) → buffers_now.out.items ≡ buffers.out.items ++ text
          → buffers_now.err.items ≡ buffers.err.items ++ reply.err
          → IsAtPointOfTalk base (talk_with_answer talk asked part)
          (record { output_buffers = buffers_now; session = session_now; files = files_now; steps = steps_now })
      replied_at buffers_now o e = record {
        out = out_now ∙ ap (λ t. base.out ++ t) (sym o);
        err = err_now ∙ ap (λ t. base.err ++ t) (sym e);
        session = same.session;
        files = files_after;
        steps = omega (arith, same.steps, at.steps);
      }

      -- or only a front of the answer is output
      replied_before : (buffers_now : OutputBuffers) → BeginsTalkOutput buffers_now.out.items
          (buffers.out.items ++ text)
          → BeginsTalkOutput buffers_now.err.items (buffers.err.items ++ reply.err)
          → IsFrontOfTalk base (talk_with_answer talk asked part)
          buffers_now
      replied_before buffers_now o e = record {
        out = (o.0, out_now ∙ ap (λ t. base.out ++ t) o.1 ∙ sym (append_assoc base.out buffers_now.out.items o.0));
        err = (e.0, err_now ∙ ap (λ t. base.err ++ t) e.1 ∙ sym (append_assoc base.err buffers_now.err.items e.0));
      }

      -- a front of the answer breaks off the talk
      pub replied_broken : (fault : SessionFault) (buffers_now : OutputBuffers)
          → BeginsTalkOutput buffers_now.out.items (buffers.out.items ++ text) → BeginsTalkOutput buffers_now.err.items
          (buffers.err.items ++ reply.err)
          → IsTalkBroken fault base talk (part ∷ [])
          (record { output_buffers = buffers_now; session = session_now; files = files_now; steps = steps_now })
      replied_broken fault buffers_now o e = record {
        answered_lines = part ∷ [];
        lines_left = [];
        lines_split = refl;
        output_before = replied_before buffers_now o e;
        files_left = (asked.state_after.files, files_after, inl refl);
      }

    -- a line that is not answered has no output
    pub unanswered : (A : Type 0) (line : Option (List ℕ)) → line ≡ readable_session_line part → (fault : SessionFault)
        (session_now : SessionState) (files_now : Option FileMap) (steps_now : ℕ)
        → SessionLineKeepsFiles {A = A} (read_session_line_save_name line) (Err fault) files files_now
        → IsTalkBroken fault base talk (part ∷ [])
        (record { output_buffers = buffers; session = session_now; files = files_now; steps = steps_now })
    unanswered A line heard fault session_now files_now steps_now kept = record {
      answered_lines = [];
      lines_left = part ∷ [];
      lines_split = refl;
      output_before = talk_output_is_front_of_later base talk talk []
          (record { output_buffers = buffers; session = session; files = files; steps = steps }) at refl;
      files_left = session_files_after_failed_line A base.files talk part fault files_now
          (subst (λ old. SessionLineKeepsFiles {A = A} (heard_line_save_name part) (Err fault) old files_now) at.files
          (subst (λ l. SessionLineKeepsFiles {A = A} (read_session_line_save_name l) (Err fault) files files_now) heard
          kept));
    }
