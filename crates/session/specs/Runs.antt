-- The runs of a session over a source.
use Rattle.std.specs.Prelude.{◌≡◌, ◌⊎◌, ◌≤◌, ◌++◌, ℕ, List, [], Bool, true, false, Result, Ok, Err, Some, None}
use Rattle.std.specs.declared.option.Option.{Option}
use Rattle.std.specs.List.{list_any}
use Rattle.units_io.specs.Faults.{HasIoCountRisen}
use Rattle.session.specs.HeardLines.{heard_input_loads_file, is_last_session_line}
use Rattle.session.specs.Input.{whole_input_lines}
use Rattle.session.specs.Outside.{SessionSinkGrowsAtLeast, SessionOutside, IsInputReadToEnd, SessionTookMoreThan}
use Rattle.session.specs.Sessions.{SessionState}
use Rattle.session.specs.SessionProgress.{HoldsInputRest}
use Rattle.session.specs.Talks.{SessionTrace}
use Rattle.session.specs.KnownContents.{IsSessionValueKnownIfNeeded}
use Rattle.session.specs.BetweenPieces.{OpensSession, SessionWaitsForInput}
use Rattle.session.specs.Worlds.{SessionWorld, session_world_outside}
use Rattle.session.specs.WrittenOutput.{IsSessionEnded, session_course}
use Rattle.session.specs.declared.fault.SessionFault.{SessionFault}
use Rattle.session.specs.declared.fault.SessionFault.TheVariants.{ReadFailed, WriteFailed, OutOfMemory}
use Rattle.session.specs.declared.over_source.SessionEnd.{SessionEnd}
use Rattle.session.specs.declared.over_source.SessionEnd.TheVariants.{Done, ReadFault, WriteFault, NoMemory}
use Rattle.session.specs.declared.over_source.SessionEnd.TheVariants.{InputTooLong}
use Rattle.session.specs.declared.session_output.OutputBuffers.{OutputBuffers}

-- the cause of an ending other than the end of the input or of the session: a read or a fetch failed, a write or a
-- store failed, or more bytes were read than the limit
pub record HasSessionEndCause (ending : SessionEnd) (before after : SessionWorld) : Type 0 where
  pub read_cause : ending ≡ ReadFault →
      HasIoCountRisen before.source.faults after.source.faults ⊎ HasIoCountRisen before.files.fetch_faults
      after.files.fetch_faults
  pub write_cause : ending ≡ WriteFault →
      HasIoCountRisen before.out.faults after.out.faults ⊎ HasIoCountRisen before.err.faults after.err.faults
      ⊎ HasIoCountRisen before.files.store_faults after.files.store_faults
  pub too_long : ending ≡ InputTooLong → SessionTookMoreThan 4294967296 before.source.bytes_taken
      after.source.bytes_taken

-- each sink still has all the bytes that it had
pub record HaveSessionSinksGrown (before after : SessionWorld) : Type 0 where
  pub out : SessionSinkGrowsAtLeast before.out.bytes_written after.out.bytes_written []
  pub err : SessionSinkGrowsAtLeast before.err.bytes_written after.err.bytes_written []

-- a session wrote its opening output, answered the lines of a source, and ended in this way
pub record IsSessionRun (buffers : OutputBuffers) (session : SessionState) (ending : SessionEnd)
    (before after : SessionWorld) : Type 0
  where
    -- after `Done` both sinks have everything that the session says over its whole input, and the files are as it
    -- leaves them; after any other ending the lines up to some line are answered, each sink has a front of the output
    -- for them, and the files are as they leave them; if the input is too long or the source failed, these are the
    -- complete lines of the bytes read, and all of their output is written; a store that failed can have damaged the
    -- one file that the next line saves. If no line loads a file, the files may hold anything, and their contents need
    -- not be known
    pub run_if_known : (first : SessionTrace) (input : List ℕ) (start : SessionOutside)
        → before.source.input_left ≡ Some input
        →
        IsSessionValueKnownIfNeeded (heard_input_loads_file input) before.files.known_files
        → OpensSession first buffers session start (session_world_outside before)
        →
        IsSessionEnded (session_course first input) ending start (session_world_outside after)
    -- a session that ended with `Done` has read its input to the end, or to a line that ends it
    pub whole_run : (input : List ℕ) → before.source.input_left ≡ Some input → ending ≡ Done →
        IsInputReadToEnd input after.source.input_left
    -- every other ending has its cause
    pub has_cause : HasSessionEndCause ending before after

-- the run of a session that waits for its first line, with all its earlier output written
pub record IsWaitingSessionRun (held : Option (List ℕ)) (session : SessionState) (ending : SessionEnd)
    (before after : SessionWorld) : Type 0
  where
    pub run_if_known : (first : SessionTrace) (input : List ℕ) (start : SessionOutside)
        → before.source.input_left ≡ Some input
        →
        IsSessionValueKnownIfNeeded (heard_input_loads_file input) start.files
        → start.fetch_faults ≤ before.files.fetch_faults →
        start.store_faults ≤ before.files.store_faults →
        SessionWaitsForInput first [] held session start (session_world_outside before) →
        IsSessionEnded (session_course first input) ending start (session_world_outside after)
    pub whole_run : (input : List ℕ) → before.source.input_left ≡ Some input → HoldsInputRest [] held → ending ≡ Done →
        IsInputReadToEnd input after.source.input_left
    pub has_cause : HasSessionEndCause ending before after
    pub grows : HaveSessionSinksGrown before after

-- no count of faults has decreased
pub record AreLaterSessionFaultCounts (before now : SessionWorld) : Type 0 where
  pub fetches : before.files.fetch_faults ≤ now.files.fetch_faults
  pub stores : before.files.store_faults ≤ now.files.store_faults
  pub out : before.out.faults ≤ now.out.faults
  pub err : before.err.faults ≤ now.err.faults

-- a waiting session has answered a block of its input and written all of the output for it, and waits again
pub record SessionGoesOn (block : List ℕ) (held : Option (List ℕ)) (session : SessionState) (held_now : Option (List ℕ))
    (session_now : SessionState) (before after : SessionWorld) : Type 0 where
  pub waits_on : (first : SessionTrace) (taken more : List ℕ) (start : SessionOutside) →
      IsSessionValueKnownIfNeeded (heard_input_loads_file ((taken ++ block) ++ more)) start.files →
      SessionWaitsForInput first taken held session start (session_world_outside before) →
      SessionWaitsForInput first (taken ++ block) held_now session_now start (session_world_outside after)
  pub counts_later : AreLaterSessionFaultCounts before after
  pub grows : HaveSessionSinksGrown before after

-- a line of the block, or a fault at one, ended a waiting session in this way
pub record SessionEndsInBlock (ending : SessionEnd) (block : List ℕ) (held : Option (List ℕ)) (session : SessionState)
    (before after : SessionWorld) : Type 0 where
  pub run_if_known : (first : SessionTrace) (taken more : List ℕ) (start : SessionOutside) →
      IsSessionValueKnownIfNeeded (heard_input_loads_file ((taken ++ block) ++ more)) start.files →
      start.fetch_faults ≤ before.files.fetch_faults → start.store_faults ≤ before.files.store_faults →
      SessionWaitsForInput first taken held session start (session_world_outside before) →
      IsSessionEnded (session_course first ((taken ++ block) ++ more)) ending start (session_world_outside after)
  pub has_cause : HasSessionEndCause ending before after
  pub grows : HaveSessionSinksGrown before after

-- a block was answered: the session goes on, or it has ended in this way
abbrev pub IsInputBlockAnswered : Option SessionEnd → (block : List ℕ) → (held : Option (List ℕ)) → SessionState
    → (held_now : Option (List ℕ)) → (session_now : SessionState) → (before after : SessionWorld) → Type 0
IsInputBlockAnswered None block held session held_now session_now before after =
    SessionGoesOn block held session held_now session_now before after
IsInputBlockAnswered (Some ending) block held session held_now session_now before after =
    SessionEndsInBlock ending block held session before after

-- a session that waited for more input ended in this way at the end of its input
pub record IsInputEndAnswered (ending : SessionEnd) (held : Option (List ℕ)) (session : SessionState)
    (before after : SessionWorld)
    : Type 0 where
  pub run_if_known : (first : SessionTrace) (input : List ℕ) (start : SessionOutside)
      → IsSessionValueKnownIfNeeded (heard_input_loads_file input) start.files →
      start.fetch_faults ≤ before.files.fetch_faults → start.store_faults ≤ before.files.store_faults →
      SessionWaitsForInput first input held session start (session_world_outside before) →
      IsSessionEnded (session_course first input) ending start (session_world_outside after)
  pub has_cause : HasSessionEndCause ending before after
  pub grows : HaveSessionSinksGrown before after

-- how the lines of a block are cut: the session goes on after the whole block; or one of its lines is the last, if the
-- session ended with `Done`
abbrev pub IsInputBlockCut : Option SessionEnd → (taken block : List ℕ) → (held : Option (List ℕ)) → Type 0
IsInputBlockCut None taken block held = HoldsInputRest (taken ++ block) held
IsInputBlockCut (Some ending) taken block held = ending ≡ Done
    → list_any is_last_session_line (whole_input_lines (taken ++ block)) ≡ true

-- how a fault ends a session
abbrev pub session_end_by_fault : SessionFault → SessionEnd
session_end_by_fault ReadFailed = ReadFault
session_end_by_fault WriteFailed = WriteFault
session_end_by_fault OutOfMemory = NoMemory

-- how a session ended with the bytes that were fed, or `None` if it goes on
abbrev pub session_end_after_feed : Result Bool SessionFault → Option SessionEnd
session_end_after_feed (Ok false) = None
session_end_after_feed (Ok true) = Some Done
session_end_after_feed (Err fault) = Some (session_end_by_fault fault)

-- how a session ended at the end of its input
abbrev pub session_end_at_input_end : {A : Type 0} → Result A SessionFault → SessionEnd
session_end_at_input_end (Ok _) = Done
session_end_at_input_end (Err fault) = session_end_by_fault fault
