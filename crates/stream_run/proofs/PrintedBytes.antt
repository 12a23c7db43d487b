-- The bytes that the writers of a process accepted.
use Rattle.std.proofs.Common.{◌≡◌, ℕ, List, [], Some, None, refl, sym, ◌∙◌}
use Rattle.std.specs.declared.option.Option.{Option}
use Rattle.std.proofs.lemmas.Option.{same_Some}
use Rattle.session.specs.Outside.{SessionOutside}
use Rattle.session.specs.Worlds.{SessionFilesSeen, session_files_seen, session_world_outside}
use Rattle.session.specs.WrittenOutput.{IsAllSessionOutput, SessionCourse, SessionOutput, output_of_session_course}
use Rattle.units_io.specs.StreamStates.{ReaderState, WriterState}
use Rattle.stream_run.specs.StreamRuns.{IsPrintedRun, IsProcessRun, PrintsRun, stream_world, untouched_reader}
use Rattle.stream_run.specs.StreamRuns.{untouched_writer}
use Rattle.units_io.specs.Counts.{FilesCounts}
use Rattle.units_io.specs.FileMap.{FileMap}
use Rattle.units_io.specs.NamedValues.{NamedTexts}
use Rattle.units_run.specs.Calls.{RunArguments, run_course, run_of}
use Rattle.units_run.specs.Endings.{IsPlanOutput, IsRunColumnOutput, IsRunOutput, IsStatedRunEnd}
use Rattle.units_run.specs.Headline.{IsRun}
use Rattle.units_run.specs.Plans.{Plan, Whole, Opened, Columns}
use Rattle.units_run.specs.Work.{plan_of}
use Rattle.units_run.specs.declared.status.Status.{Status}
use Rattle.units_run.specs.declared.status.Status.TheVariants.{Done, Refused, Usage, NoFile, ReadFault, WriteFault}
use Rattle.units_run.specs.declared.status.Status.TheVariants.{NoMemory, InputTooLong}

-- at a stated ending, all the output is written and the ending is that of the run
stated_run_output : (course : SessionCourse) (wanted ending : Status) (before after : SessionOutside)
    → IsStatedRunEnd ending → IsRunOutput course wanted ending before after
    → (ending ≡ wanted) × IsAllSessionOutput (output_of_session_course course) before after
stated_run_output course wanted Done before after stated left = left
stated_run_output course wanted Refused before after stated left = left
stated_run_output course wanted Usage before after stated left = left
stated_run_output course wanted NoFile before after stated left = left
stated_run_output course wanted ReadFault before after stated left = absurd stated
stated_run_output course wanted WriteFault before after stated left = absurd stated
stated_run_output course wanted NoMemory before after stated left = absurd stated
stated_run_output course wanted InputTooLong before after stated left = absurd stated

stated_column_output : (output : SessionOutput) (wanted ending : Status) (before after : SessionOutside)
    → IsStatedRunEnd ending → IsRunColumnOutput output wanted ending before after
    → (ending ≡ wanted) × IsAllSessionOutput output before after
stated_column_output output wanted Done before after stated left = left
stated_column_output output wanted Refused before after stated left = left
stated_column_output output wanted Usage before after stated left = left
stated_column_output output wanted NoFile before after stated left = left
stated_column_output output wanted ReadFault before after stated left = absurd stated
stated_column_output output wanted WriteFault before after stated left = absurd stated
stated_column_output output wanted NoMemory before after stated left = absurd stated
stated_column_output output wanted InputTooLong before after stated left = absurd stated

stated_plan_output : (plan : Plan) (course : SessionCourse) (wanted ending : Status) (before after : SessionOutside)
    → IsStatedRunEnd ending → IsPlanOutput plan course wanted ending before after
    → (ending ≡ wanted) × IsAllSessionOutput (output_of_session_course course) before after
stated_plan_output (Whole run) course wanted ending before after stated left =
    stated_run_output course wanted ending before after stated left
stated_plan_output (Opened talk) course wanted ending before after stated left =
    stated_run_output course wanted ending before after stated left
stated_plan_output (Columns work) course wanted ending before after stated left =
    stated_column_output (output_of_session_course course) wanted ending before after stated left

-- a process prints the run of its words, if these need neither files nor input
pub process_prints_run : (words : List (List ℕ)) (vars : NamedTexts) (status : Status) (source : ReaderState)
    (out err : WriterState) (counts : FilesCounts)
    → IsProcessRun words vars status source out err counts
    → PrintsRun words vars status out.written_bytes err.written_bytes
process_prints_run words vars status source out err counts ran files input no_file no_input stated =
    let call : RunArguments = record { words = words; vars = vars; files = files; input = input } in
    let all = stated_plan_output (plan_of words vars files) (run_course call) (run_of call).status status
    (session_world_outside (stream_world (untouched_reader None) (untouched_writer None) (untouched_writer None)
    (session_files_seen None 0 0) 0))
    (session_world_outside
    (stream_world source out err (session_files_seen None counts.faults counts.store_faults) ran.steps)) stated
    (ran.run.files_after files input no_file no_input) in
    (same_Some _ _ all.1.out, same_Some _ _ all.1.err, all.0)

-- a run over known input and known files, with two writers that tell all and held no byte, prints the run
pub known_run_prints : (words : List (List ℕ)) (vars : NamedTexts) (files : FileMap) (input : List ℕ) (status : Status)
    (source : ReaderState) (out err : WriterState) (left held_out held_err : Option (List ℕ)) (told : Option FileMap)
    (after : SessionFilesSeen) (faults store_faults steps more : ℕ) (out_bytes err_bytes : List ℕ)
    → left ≡ Some input → held_out ≡ Some [] → held_err ≡ Some [] → told ≡ Some files
    → out.written_bytes ≡ out_bytes → err.written_bytes ≡ err_bytes
    → IsRun words vars status
    (stream_world (untouched_reader left) (untouched_writer held_out) (untouched_writer held_err)
    (session_files_seen told faults store_faults) steps)
    (stream_world source out err after more)
    → IsPrintedRun words vars files input status out_bytes err_bytes
known_run_prints words vars files input status source out err left held_out held_err told after faults store_faults
    steps more out_bytes err_bytes left_is out_empty err_empty told_is out_is err_is run stated =
    let call : RunArguments = record { words = words; vars = vars; files = files; input = input } in
    let before = session_world_outside
    (stream_world (untouched_reader (Some input)) (untouched_writer (Some [])) (untouched_writer (Some []))
    (session_files_seen (Some files) faults store_faults) steps) in
    let ran = rw (left_is, out_empty, err_empty, told_is) at run in
    let all = stated_plan_output (plan_of words vars files) (run_course call) (run_of call).status status before
    (session_world_outside (stream_world source out err after more)) stated (ran.files_after files input refl refl)
    in
    (sym out_is ∙ same_Some _ _ all.1.out, sym err_is ∙ same_Some _ _ all.1.err, all.0)
