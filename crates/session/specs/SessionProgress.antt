-- The state of a session while its input is read.
use Rattle.std.specs.Prelude.{◌≡◌, ◌+◌, ◌++◌, ℕ, List, Bool, true, false, Result, Ok, Err, ⊤}
use Rattle.std.specs.declared.option.Option.{Option}
use Rattle.std.specs.List.{list_any}
use Rattle.units_io.specs.FileMap.{FileMap}
use Rattle.session.specs.HeardLines.{heard_lines, is_last_session_line, readable_session_line}
use Rattle.session.specs.Input.{input_lines, whole_input_lines, unfinished_input_line}
use Rattle.session.specs.FilesLeft.{AreFilesLeftBySession}
use Rattle.session.specs.Sessions.{SessionState}
use Rattle.session.specs.Talks.{SessionTrace, talk_over_lines, talk_over_input}
use Rattle.session.specs.KnownContents.{next_session_value_if_known}
use Rattle.session.specs.declared.fault.SessionFault.{SessionFault}
use Rattle.session.specs.declared.fault.SessionFault.TheVariants.{WriteFailed}
use Rattle.session.specs.declared.session_output.OutputBuffers.{OutputBuffers}

-- the output before the session, the known contents of the files, and the count of steps at the start
pub record SessionBase : Type 0 where
  pub out : List ℕ
  pub err : List ℕ
  pub files : Option FileMap
  pub steps : ℕ

-- the state of the program: the output that is not written yet, the session, the files, and the count of steps
pub record SessionNow : Type 0 where
  pub output_buffers : OutputBuffers
  pub session : SessionState
  pub files : Option FileMap
  pub steps : ℕ

abbrev pub session_now_of : OutputBuffers → SessionState → (files : Option FileMap) → (steps : ℕ) → SessionNow
session_now_of buffers session files steps = record {
  output_buffers = buffers;
  session = session;
  files =
      files;
  steps = steps;
}

-- the program is at this point of the talk; files whose contents are not known may hold anything
pub record IsAtPointOfTalk (base : SessionBase) (talk : SessionTrace) (now : SessionNow) : Type 0 where
  pub out : talk.out ≡ base.out ++ now.output_buffers.out.items
  pub err : talk.err ≡ base.err ++ now.output_buffers.err.items
  pub session : now.session ≡ talk.state.session
  pub files : now.files ≡ next_session_value_if_known base.files talk.state.files
  pub steps : now.steps ≡ base.steps + talk.steps

-- the bytes are a front of others
abbrev pub BeginsTalkOutput : List ℕ → List ℕ → Type 0
BeginsTalkOutput xs ys = (rest : List ℕ) × (ys ≡ xs ++ rest)

-- the output is a front of that of a talk
pub record IsFrontOfTalk (base : SessionBase) (talk : SessionTrace) (buffers : OutputBuffers) : Type 0 where
  pub out : BeginsTalkOutput (base.out ++ buffers.out.items) talk.out
  pub err : BeginsTalkOutput (base.err ++ buffers.err.items) talk.err

-- the lines up to some line are answered, and the others are not: the output is a front of the talk over the answered
-- lines, and the files are as that talk leaves them, or, only if a store failed, with the file damaged that the next
-- line saves
pub record TalkBreaksOff (failed : Type 0) (base : SessionBase) (talk : SessionTrace) (lines : List (List ℕ))
    (now : SessionNow) : Type 0
  where
    pub answered_lines : List (List ℕ)
    pub lines_left : List (List ℕ)
    pub lines_split : lines ≡ answered_lines ++ lines_left
    pub output_before : IsFrontOfTalk base (talk_over_lines talk answered_lines) now.output_buffers
    pub files_left : (m : FileMap) × (now.files ≡ next_session_value_if_known base.files m)
        × AreFilesLeftBySession failed lines_left (talk_over_lines talk answered_lines).state.files m

-- the answers to these lines broke off with a fault
abbrev pub IsTalkBroken : SessionFault → SessionBase → SessionTrace → (lines : List (List ℕ)) → SessionNow → Type 0
IsTalkBroken fault base talk lines now = TalkBreaksOff (fault ≡ WriteFailed) base talk lines now

-- no complete line of the bytes read is the last, and the rest is held
pub record HoldsInputRest (taken : List ℕ) (held : Option (List ℕ)) : Type 0 where
  pub going : list_any is_last_session_line (whole_input_lines taken) ≡ false
  pub held_part : held ≡ readable_session_line (unfinished_input_line taken)

-- bytes of an input were fed: a front of them, so that these are left; or one of their lines is the last; or there was
-- a fault
abbrev pub IsInputTakenUp : Result Bool SessionFault → (taken bytes left : List ℕ) → (held : Option (List ℕ)) → Type 0
IsInputTakenUp (Ok false) taken bytes left held =
    (done : List ℕ) × (bytes ≡ done ++ left) × HoldsInputRest (taken ++ done) held
IsInputTakenUp (Ok true) taken bytes left held = list_any is_last_session_line
    (whole_input_lines (taken ++ bytes)) ≡ true
IsInputTakenUp (Err _) taken bytes left held = ⊤

-- the complete lines of the bytes read are answered, none of them is the last, and the rest is held
pub record IsTalkAtWholeLines (base : SessionBase) (first : SessionTrace) (taken : List ℕ) (held : Option (List ℕ))
    (now : SessionNow) : Type 0
  where
    pub is_at : IsAtPointOfTalk base (talk_over_lines first (whole_input_lines taken)) now
    pub going : list_any is_last_session_line (whole_input_lines taken) ≡ false
    pub held_part : held ≡ readable_session_line (unfinished_input_line taken)

-- the talk over the whole input is finished
pub record IsTalkOver (base : SessionBase) (first : SessionTrace) (taken input : List ℕ) (now : SessionNow) : Type 0
  where
    pub is_at : IsAtPointOfTalk base (talk_over_input first input) now
    pub last_line : list_any is_last_session_line (whole_input_lines taken) ≡ true

-- bytes of an input were fed: the session goes on after some of them, and these are left; or one of their lines ended
-- it; or there was a fault
abbrev pub IsTalkFed : Result Bool SessionFault → SessionBase → SessionTrace → (taken bytes left more : List ℕ)
    → (held : Option (List ℕ)) → SessionNow → Type 0
IsTalkFed (Ok false) base first taken bytes left more held now =
    (done : List ℕ) × (bytes ≡ done ++ left) × IsTalkAtWholeLines base first (taken ++ done) held now
IsTalkFed (Ok true) base first taken bytes left more held now =
    IsTalkOver base first (taken ++ bytes) ((taken ++ bytes) ++ more) now
IsTalkFed (Err fault) base first taken bytes left more held now =
    IsTalkBroken fault base first (heard_lines (input_lines ((taken ++ bytes) ++ more))) now
