-- The output of a run, by its ending.
use Rattle.std.specs.Prelude.{◌≡◌, ℕ, List, Bool, true, false, ⊤}
use Rattle.command_line.specs.AcceptedWords.{are_command_words_accepted}
use Rattle.command_line.specs.Fields.{command_line_of}
use Rattle.session.specs.Outside.{SessionCountUnchanged, SessionOutside}
use Rattle.session.specs.WrittenOutput.{IsAllSessionOutput, IsSessionCutShort, IsSessionOutputFront, IsSessionPrefixRun}
use Rattle.session.specs.WrittenOutput.{IsSessionPrefixRunExceptFile, SessionCourse}
use Rattle.session.specs.WrittenOutput.{SessionOutput, output_of_session_course}
use Rattle.units_io.specs.Bytes.{SinkGrowsByPrefix}
use Rattle.session.specs.declared.over_source.SessionEnd.{SessionEnd}
use Rattle.session.specs.declared.over_source.SessionEnd.TheVariants as end
use Rattle.units_run.specs.Calls.{RunArguments, plan_for, run_course, run_of}
use Rattle.units_run.specs.Plans.{Plan, Columns}
use Rattle.units_run.specs.Needs.{run_loads_file, run_opens_session}
use Rattle.units_run.specs.declared.column_end.ColumnEnd.{ColumnEnd}
use Rattle.units_run.specs.declared.column_end.ColumnEnd.TheVariants as column
use Rattle.units_run.specs.declared.status.Status.{Status}
use Rattle.units_run.specs.declared.status.Status.TheVariants as status
use Rattle.units_run.specs.declared.status.Status.TheVariants.{ReadFault, WriteFault, NoMemory, InputTooLong}

-- the exit status of the process
abbrev pub run_status_code : Status → ℕ
run_status_code status.Done = 0
run_status_code status.Refused = 1
run_status_code status.Usage = 2
run_status_code status.NoFile = 3
run_status_code status.ReadFault = 4
run_status_code status.WriteFault = 5
run_status_code status.NoMemory = 6
run_status_code status.InputTooLong = 7

-- an ending that the definition of the run states: neither a fault, a limit nor running out of memory
abbrev pub IsStatedRunEnd : Status → Type 0
IsStatedRunEnd ReadFault = ⊥
IsStatedRunEnd WriteFault = ⊥
IsStatedRunEnd NoMemory = ⊥
IsStatedRunEnd InputTooLong = ⊥
IsStatedRunEnd ending = ⊤

-- an ending that is not caused by a fault
abbrev pub IsCleanRunEnd : Status → Type 0
IsCleanRunEnd ReadFault = ⊥
IsCleanRunEnd WriteFault = ⊥
IsCleanRunEnd ending = ⊤

-- an ending after all the work was done, refusals included
abbrev pub IsWorkedRunEnd : Status → Type 0
IsWorkedRunEnd status.Done = ⊤
IsWorkedRunEnd status.Refused = ⊤
IsWorkedRunEnd ending = ⊥

-- how a run may end, apart from faults, limits and running out of memory, depending on whether its words are valid,
-- name a definition file and lead to a session: a file may give no deck, and a session never ends with `Refused`
abbrev pub RunMayEnd : (taken file session : Bool) → Status → Type 0
RunMayEnd false file session ending = ending ≡ status.Usage
RunMayEnd true file session status.Done = ⊤
RunMayEnd true file session status.Refused = session ≡ false
RunMayEnd true file session status.NoFile = file ≡ true
RunMayEnd true file session ending = ⊥

-- how a run with these words may end
abbrev pub RunMayEndBy : (words : List (List ℕ)) → Status → Type 0
RunMayEndBy words ending = RunMayEnd (are_command_words_accepted words) (run_loads_file (command_line_of words))
    (run_opens_session words) ending

-- the status for the end of a session
abbrev pub run_status_of_session_end : SessionEnd → Status
run_status_of_session_end end.Done = status.Done
run_status_of_session_end end.ReadFault = status.ReadFault
run_status_of_session_end end.WriteFault = status.WriteFault
run_status_of_session_end end.NoMemory = status.NoMemory
run_status_of_session_end end.InputTooLong = status.InputTooLong

-- the status for the end of a column conversion
abbrev pub run_status_of_column_end : ColumnEnd → Status
run_status_of_column_end column.Done = status.Done
run_status_of_column_end column.Refused = status.Refused
run_status_of_column_end column.ReadFault = status.ReadFault
run_status_of_column_end column.WriteFault = status.WriteFault
run_status_of_column_end column.NoMemory = status.NoMemory
run_status_of_column_end column.InputTooLong = status.InputTooLong

-- the output of a run with this course, by its ending: all of it; or a part, which is cut after the bytes read if the
-- input is too long, or if a read failed and no fetch did
abbrev pub IsRunOutput : SessionCourse → (wanted : Status) → Status → (before after : SessionOutside) → Type 0
IsRunOutput course wanted ReadFault before after =
    IsSessionPrefixRun course before after × (SessionCountUnchanged before.fetch_faults after.fetch_faults
    → IsSessionCutShort course before after)
IsRunOutput course wanted InputTooLong before after = IsSessionPrefixRun course before after × IsSessionCutShort course
    before after
IsRunOutput course wanted WriteFault before after = IsSessionPrefixRunExceptFile course before after
IsRunOutput course wanted NoMemory before after = IsSessionPrefixRun course before after
IsRunOutput course wanted ending before after = (ending ≡ wanted) × IsAllSessionOutput (output_of_session_course course)
    before after

-- the output of a run over column input: all of it; or no byte on `out`, if the input was not read in full; or a front
abbrev pub IsRunColumnOutput : SessionOutput → (wanted : Status) → Status → (before after : SessionOutside) → Type 0
IsRunColumnOutput output wanted ReadFault before after =
    (after.out ≡ before.out) × SinkGrowsByPrefix before.err after.err output.err
IsRunColumnOutput output wanted InputTooLong before after =
    (after.out ≡ before.out) × SinkGrowsByPrefix before.err after.err output.err
IsRunColumnOutput output wanted WriteFault before after = IsSessionOutputFront output before after
IsRunColumnOutput output wanted NoMemory before after = IsSessionOutputFront output before after
IsRunColumnOutput output wanted ending before after = (ending ≡ wanted) × IsAllSessionOutput output before after

-- the output of a run with any plan
abbrev pub IsPlanOutput : Plan → SessionCourse → (wanted : Status) → Status → (before after : SessionOutside) → Type 0
IsPlanOutput (Columns work) course wanted ending before after = IsRunColumnOutput (output_of_session_course course)
    wanted ending before
    after
IsPlanOutput plan course wanted ending before after = IsRunOutput course wanted ending before after

-- what a run leaves, by its ending, for its words, variables, files and input
abbrev pub IsRunOf : RunArguments → Status → (before after : SessionOutside) → Type 0
IsRunOf call ending before after =
    IsPlanOutput (plan_for call) (run_course call) (run_of call).status ending before after
