-- Answers to lines that break off.
use Rattle.std.proofs.Common.{◌≡◌, ◌++◌, ◌∷◌, [], ℕ, List, true, inl, inr, cond, refl, sym, ap, subst, ◌∙◌}
use Rattle.std.proofs.Common.{append_assoc, Some, None, Ok, Err}
use Rattle.std.specs.Prelude.{Result}
use Rattle.std.specs.declared.option.Option.{Option}
use Rattle.std.proofs.lemmas.List.{append-nil}
use Rattle.def_entry.specs.Cuts.{entry_text_lacks}
use Rattle.units_io.specs.FileMap.{FileMap}
use Rattle.session.specs.HeardLines.{heard_line_save_name, heard_lines, is_last_session_line}
use Rattle.session.specs.Input.{whole_input_lines, unfinished_input_line, input_lines}
use Rattle.session.specs.FilesLeft.{AreFilesLeftBySession, SessionKeepsOtherFiles, SessionLineKeepsFiles}
use Rattle.session.specs.FilesLeft.{SessionSaveKeepsFiles}
use Rattle.session.specs.SessionProgress.{IsAtPointOfTalk, IsFrontOfTalk, IsTalkAtWholeLines, IsTalkBroken, SessionBase}
use Rattle.session.specs.SessionProgress.{SessionNow, TalkBreaksOff}
use Rattle.session.specs.Talks.{SessionTrace, talk_over_lines}
use Rattle.session.specs.KnownContents.{next_session_value_if_known}
use Rattle.session.specs.declared.fault.SessionFault.{SessionFault}
use Rattle.session.specs.declared.fault.SessionFault.TheVariants.{OutOfMemory, ReadFailed, WriteFailed}
use Rattle.session.proofs.HeardLines.{heard_end, heard_feed, heard_more}
use Rattle.session.proofs.TalkParts.{talk-append, talk_output_is_front_of_later}

-- all files but one are as before if nothing changed them
session_keeps_unchanged_files : (name : List ℕ) (old new : Option FileMap) → new ≡ old
    → SessionKeepsOtherFiles name old new
session_keeps_unchanged_files name None new e = e
session_keeps_unchanged_files name (Some old) new e = (old, e, λ other differs. refl)

session_save_keeps_same_files : {A : Type 0} (name : List ℕ) (result : Result A SessionFault) (old new : Option FileMap)
    → new ≡ old
    → SessionSaveKeepsFiles name result old new
session_save_keeps_same_files name (Ok x) old new e = tt
session_save_keeps_same_files name (Err ReadFailed) old new e = e
session_save_keeps_same_files name (Err WriteFailed) old new e = session_keeps_unchanged_files name old new e
session_save_keeps_same_files name (Err OutOfMemory) old new e = e

pub session_line_keeps_same_files : {A : Type 0} (name : Option (List ℕ)) (result : Result A SessionFault)
    (old new : Option FileMap)
    → new ≡ old → SessionLineKeepsFiles name result old new
session_line_keeps_same_files None result old new e = e
session_line_keeps_same_files (Some name) result old new e = session_save_keeps_same_files name result old new e

-- a line saves the file that its command names
pub session_line_saves_named_file : {A : Type 0} (named : Option (List ℕ)) (name : List ℕ)
    (result : Result A SessionFault)
    (old new : Option FileMap) → Some name ≡ named → SessionSaveKeepsFiles name result old new
    → SessionLineKeepsFiles named result old new
session_line_saves_named_file named name result old new e k = subst (λ n. SessionLineKeepsFiles n result old new) e k

-- the files after the answers broke off, for another cause
pub session_files_left_by_cause : (failed cause : Type 0) (rest : List (List ℕ)) (left files : FileMap)
    → (failed → cause)
    → AreFilesLeftBySession failed rest left files → AreFilesLeftBySession cause rest left files
session_files_left_by_cause failed cause rest left files h (inl same) = inl same
session_files_left_by_cause failed cause rest left files h (inr spoilt) = inr (h spoilt.0, spoilt.1)

-- if no store failed, the files are as the answers left them
pub session_files_left_undamaged : (failed : Type 0) (rest : List (List ℕ)) (left files : FileMap) → (failed → ⊥)
    → AreFilesLeftBySession failed rest left files → files ≡ left
session_files_left_undamaged failed rest left files h (inl same) = same
session_files_left_undamaged failed rest left files h (inr spoilt) = absurd (h spoilt.0)

-- the files are right before more lines, too
session_files_left_before_more : (failed : Type 0) (rest after : List (List ℕ)) (left files : FileMap)
    → AreFilesLeftBySession failed rest left files
    → AreFilesLeftBySession failed (rest ++ after) left files
session_files_left_before_more failed rest after left files (inl same) = inl same
session_files_left_before_more failed rest after left files (inr spoilt) = inr (
  spoilt.0,
  record {
    line = spoilt.1.line;
    lines_later = spoilt.1.lines_later ++ after;
    name = spoilt.1.name;
    rest_begins = ap (λ ls. ls ++ after) spoilt.1.rest_begins;
    saves = spoilt.1.saves;
    others_same = spoilt.1.others_same;
  },
)

pub talk_breaks_off_by_cause : (failed cause : Type 0) (base : SessionBase) (talk : SessionTrace)
    (lines : List (List ℕ)) (now : SessionNow)
    → (failed → cause) → TalkBreaksOff failed base talk lines now → TalkBreaksOff cause base talk lines now
talk_breaks_off_by_cause failed cause base talk lines now h b = record {
  answered_lines = b.answered_lines;
  lines_left = b.lines_left;
  lines_split = b.lines_split;
  output_before = b.output_before;
  files_left = (
    b.files_left.0,
    b.files_left.1,
    session_files_left_by_cause failed cause b.lines_left (talk_over_lines talk b.answered_lines).state.files
        b.files_left.0 h b.files_left.2,
  );
}

-- the answers break off after all of these lines
pub talk_breaks_off_after_all_lines : (failed : Type 0) (base : SessionBase) (talk : SessionTrace)
    (lines : List (List ℕ)) (now : SessionNow)
    → IsAtPointOfTalk base (talk_over_lines talk lines) now → TalkBreaksOff failed base talk lines now
talk_breaks_off_after_all_lines failed base talk lines now at = record {
  answered_lines = lines;
  lines_left = [];
  lines_split = sym (append-nil lines);
  output_before = talk_output_is_front_of_later base (talk_over_lines talk lines) (talk_over_lines talk lines) [] now at
      refl;
  files_left = ((talk_over_lines talk lines).state.files, at.files, inl refl);
}

-- the answers break off at a line, with those before it answered
talk_breaks_off_at_later_line : (fault : SessionFault) (base : SessionBase) (first : SessionTrace)
    (before : List (List ℕ)) (line : List ℕ)
    (after all : List (List ℕ)) (now : SessionNow) → all ≡ before ++ line ∷ after
    → IsTalkBroken fault base (talk_over_lines first before) (line ∷ []) now → IsTalkBroken fault base first all now
talk_breaks_off_at_later_line fault base first before line after all now e b =
    let same : talk_over_lines (talk_over_lines first before) b.answered_lines ≡ talk_over_lines first
    (before ++ b.answered_lines) =
    sym (talk-append first before b.answered_lines) in
    record {
      answered_lines = before ++ b.answered_lines;
      lines_left = b.lines_left ++ after;
      lines_split =
          e ∙ ap (λ ls. before ++ (ls ++ after)) b.lines_split
          ∙ ap (λ ls. before ++ ls) (append_assoc b.answered_lines b.lines_left after)
          ∙ sym (append_assoc before b.answered_lines (b.lines_left ++ after));
      output_before = subst (λ (t : SessionTrace). IsFrontOfTalk base t now.output_buffers) same b.output_before;
      files_left = (
        b.files_left.0,
        b.files_left.1,
        subst (λ (t : SessionTrace). AreFilesLeftBySession (fault ≡ WriteFailed) (b.lines_left ++ after) t.state.files
            b.files_left.0)
            same
            (session_files_left_before_more (fault ≡ WriteFailed) b.lines_left after
            (talk_over_lines (talk_over_lines first before) b.answered_lines).state.files
            b.files_left.0 b.files_left.2),
      );
    }

-- the answers break off before the first of these lines
pub talk_breaks_off_at_first_line : (fault : SessionFault) (base : SessionBase) (talk : SessionTrace)
    (lines : List (List ℕ)) (now : SessionNow)
    → IsAtPointOfTalk base talk now → IsTalkBroken fault base talk lines now
talk_breaks_off_at_first_line fault base talk lines now at = record {
  answered_lines = [];
  lines_left = lines;
  lines_split = refl;
  output_before = talk_output_is_front_of_later base talk talk [] now at refl;
  files_left = (talk.state.files, at.files, inl refl);
}

-- the files after a save that failed
session_files_after_failed_save : (files_if_known : Option FileMap) (left : FileMap) (part name : List ℕ)
    (files : Option FileMap)
    → heard_line_save_name part ≡ Some name
    → SessionKeepsOtherFiles name (next_session_value_if_known files_if_known left) files
    → (m : FileMap) × (files ≡ next_session_value_if_known files_if_known m) × AreFilesLeftBySession
    (WriteFailed ≡ WriteFailed)
    (part ∷ []) left m
session_files_after_failed_save None left part name files e kept = (left, kept, inl refl)
session_files_after_failed_save (Some old) left part name files e kept = (
  kept.0,
  kept.1,
  inr (
    refl,
    record {
      line = part;
      lines_later = [];
      name = name;
      rest_begins = refl;
      saves = e;
      others_same =
          kept.2;
    },
  ),
)

-- the files after a line that was not answered
pub session_files_after_failed_line : (A : Type 0) (files_if_known : Option FileMap) (talk : SessionTrace)
    (part : List ℕ)
    (fault : SessionFault)
    (files : Option FileMap)
    → SessionLineKeepsFiles {A = A} (heard_line_save_name part) (Err fault)
    (next_session_value_if_known files_if_known talk.state.files) files
    → (m : FileMap) × (files ≡ next_session_value_if_known files_if_known m) × AreFilesLeftBySession
    (fault ≡ WriteFailed)
    (part ∷ []) talk.state.files m
session_files_after_failed_line A files_if_known talk part fault files kept = by (heard_line_save_name part) refl fault
    kept
  where
    by : (named : Option (List ℕ)) → heard_line_save_name part ≡ named → (f : SessionFault)
        → SessionLineKeepsFiles {A = A} named (Err f) (next_session_value_if_known files_if_known talk.state.files)
        files
        → (m : FileMap) × (files ≡ next_session_value_if_known files_if_known m) × AreFilesLeftBySession
        (f ≡ WriteFailed)
        (part ∷ []) talk.state.files m
    by None e f k = (talk.state.files, k, inl refl)
    by (Some name) e ReadFailed k = (talk.state.files, k, inl refl)
    by (Some name) e WriteFailed k = session_files_after_failed_save files_if_known talk.state.files part name files e k
    by (Some name) e OutOfMemory k = (talk.state.files, k, inl refl)

module _ (fault : SessionFault) (base : SessionBase) (first : SessionTrace) (taken : List ℕ) (held : Option (List ℕ))
    (now : SessionNow)
    (s : IsTalkAtWholeLines base first taken held now) where
  -- the answers break off after the bytes read
  pub broken_rest : (more : List ℕ) → IsTalkBroken fault base first (heard_lines (input_lines (taken ++ more))) now
  broken_rest more =
      let rest = heard_more taken s.going more in
      let talk = talk_over_lines first (whole_input_lines taken) in
      record {
        answered_lines = whole_input_lines taken;
        lines_left = rest.0;
        lines_split = rest.1;
        output_before = talk_output_is_front_of_later base talk talk [] now s.is_at refl;
        files_left = (talk.state.files, s.is_at.files, inl refl);
      }

  -- the answers break off at a line that a line feed ends
  pub broken_line : (piece : List ℕ) → entry_text_lacks 10 piece ≡ true → (behind more : List ℕ) (after : SessionNow)
      → IsTalkBroken fault base (talk_over_lines first (whole_input_lines taken))
      ((unfinished_input_line taken ++ piece) ∷ []) after
      → IsTalkBroken fault base first (heard_lines (input_lines ((taken ++ (piece ++ 10 ∷ behind)) ++ more))) after
  broken_line piece clear behind more after b =
      talk_breaks_off_at_later_line fault base first (whole_input_lines taken) (unfinished_input_line taken ++ piece)
      (cond (is_last_session_line (unfinished_input_line taken ++ piece)) []
      (heard_lines (input_lines (behind ++ more))))
      (heard_lines (input_lines ((taken ++ (piece ++ 10 ∷ behind)) ++ more))) after
      (ap (λ t. heard_lines (input_lines t))
      (append_assoc taken (piece ++ 10 ∷ behind) more
      ∙ ap (λ t. taken ++ t) (append_assoc piece (10 ∷ behind) more))
      ∙ heard_feed taken s.going piece clear (behind ++ more)) b

  -- the answers break off at the last line, which no line feed ends
  pub broken_end : (after : SessionNow) → (unfinished_input_line taken ≡ [] → ⊥)
      → IsTalkBroken fault base (talk_over_lines first (whole_input_lines taken)) (unfinished_input_line taken ∷ [])
      after
      → IsTalkBroken fault base first (heard_lines (input_lines taken)) after
  broken_end after h b =
      talk_breaks_off_at_later_line fault base first (whole_input_lines taken) (unfinished_input_line taken) []
      (heard_lines (input_lines taken)) after
      (heard_end taken s.going h) b
