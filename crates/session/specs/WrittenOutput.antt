-- Output that is written in full or in part.
use Rattle.std.specs.Prelude.{◌≡◌, ◌+◌, ◌++◌, ℕ, List, false}
use Rattle.std.specs.List.{list_any}
use Rattle.units_io.specs.Bytes.{sink_bytes_append, SinkGrowsByPrefix}
use Rattle.units_io.specs.Faults.{HasIoCountRisen}
use Rattle.units_io.specs.FileMap.{FileMap}
use Rattle.session.specs.HeardLines.{heard_lines, is_last_session_line}
use Rattle.session.specs.Input.{input_lines, whole_input_lines}
use Rattle.session.specs.FilesLeft.{AreFilesLeftBySession}
use Rattle.session.specs.Outside.{SessionCountUnchanged, SessionOutside, input_taken}
use Rattle.session.specs.Talks.{SessionTrace, talk_over_lines}
use Rattle.session.specs.KnownContents.{next_session_value_if_known}
use Rattle.session.specs.declared.over_source.SessionEnd.{SessionEnd}
use Rattle.session.specs.declared.over_source.SessionEnd.TheVariants.{Done, ReadFault, WriteFault, NoMemory}
use Rattle.session.specs.declared.over_source.SessionEnd.TheVariants.{InputTooLong}

-- the bytes for each sink, the number of newly settled names, and the files at the end
pub record SessionOutput : Type 0 where
  pub out : List ℕ
  pub err : List ℕ
  pub steps : ℕ
  pub files : FileMap

-- the whole output: both sinks have its bytes, its steps are counted, and the files are as it says
pub record IsAllSessionOutput (output : SessionOutput) (before after : SessionOutside) : Type 0 where
  pub out : after.out ≡ sink_bytes_append before.out output.out
  pub err : after.err ≡ sink_bytes_append before.err output.err
  pub files : after.files ≡ next_session_value_if_known before.files output.files
  pub steps : after.steps ≡ before.steps + output.steps

-- a front of the output on each sink
pub record IsSessionOutputFront (output : SessionOutput) (before after : SessionOutside) : Type 0 where
  pub out : SinkGrowsByPrefix before.out after.out output.out
  pub err : SinkGrowsByPrefix before.err after.err output.err

-- the session goes on after the bytes read: the output for their complete lines is written in full, and none of these
-- lines is the last
pub record IsSessionOutputCut (shown : SessionOutput) (taken : List ℕ) (before after : SessionOutside) : Type 0 where
  pub all_written : IsAllSessionOutput shown before after
  pub going : list_any is_last_session_line (whole_input_lines taken) ≡ false

-- the output after any lines are answered, and the input
pub record SessionCourse : Type 0 where
  pub output_for : (lines : List (List ℕ)) → SessionOutput
  pub input : List ℕ

-- the lines of the input that the session hears
abbrev pub heard_lines_in_course : SessionCourse → List (List ℕ)
heard_lines_in_course course = heard_lines (input_lines course.input)

-- the output over the whole input
abbrev pub output_of_session_course : SessionCourse → SessionOutput
output_of_session_course course = course.output_for (heard_lines_in_course course)

abbrev pub IsSessionCutShort : SessionCourse → SessionOutside → SessionOutside → Type 0
IsSessionCutShort course before after =
    let taken = input_taken course.input after.input_left in
    IsSessionOutputCut (course.output_for (whole_input_lines taken)) taken before after

-- a part of a course: the heard lines up to some line are answered, each sink has a front of the output for them, and
-- the files are as they leave them
pub record IsSessionPrefixRun (course : SessionCourse) (before after : SessionOutside) : Type 0 where
  pub answered_lines : List (List ℕ)
  pub lines_left : List (List ℕ)
  pub lines_split : heard_lines_in_course course ≡ answered_lines ++ lines_left
  pub output_front : IsSessionOutputFront (course.output_for answered_lines) before after
  pub files : after.files ≡ next_session_value_if_known before.files (course.output_for answered_lines).files

-- a part of a course, or, only if a store failed, one with the file damaged that the next line saves
pub record IsSessionPartIf (failed : Type 0) (course : SessionCourse) (before after : SessionOutside) : Type 0 where
  pub answered_lines : List (List ℕ)
  pub lines_left : List (List ℕ)
  pub lines_split : heard_lines_in_course course ≡ answered_lines ++ lines_left
  pub output_front : IsSessionOutputFront (course.output_for answered_lines) before after
  pub files : (m : FileMap) × (after.files ≡ next_session_value_if_known before.files m)
      × AreFilesLeftBySession failed lines_left (course.output_for answered_lines).files m

-- a part of a course, where a risen count of failed stores says that a store failed
abbrev pub IsSessionPrefixRunExceptFile : SessionCourse → (before after : SessionOutside) → Type 0
IsSessionPrefixRunExceptFile course before after =
    IsSessionPartIf (HasIoCountRisen before.store_faults after.store_faults) course before
    after

-- the output of a talk
abbrev pub talk_output : SessionTrace → SessionOutput
talk_output talk = record { out = talk.out; err = talk.err; steps = talk.steps; files = talk.state.files }

-- the course of a session
abbrev pub session_course : SessionTrace → (input : List ℕ) → SessionCourse
session_course first input = record { output_for = λ lines. talk_output (talk_over_lines first lines); input = input }

-- the output of a session by its ending: all of it; or a part, which is cut after the bytes read if the input is too
-- long, or if a read failed and no fetch did
abbrev pub IsSessionEnded : SessionCourse → SessionEnd → SessionOutside → SessionOutside → Type 0
IsSessionEnded course Done before after = IsAllSessionOutput (output_of_session_course course) before after
IsSessionEnded course ReadFault before after =
    IsSessionPrefixRun course before after × (SessionCountUnchanged before.fetch_faults after.fetch_faults
    → IsSessionCutShort course before after)
IsSessionEnded course WriteFault before after = IsSessionPrefixRunExceptFile course before after
IsSessionEnded course NoMemory before after = IsSessionPrefixRun course before after
IsSessionEnded course InputTooLong before after = IsSessionPrefixRun course before after × IsSessionCutShort course
    before after
