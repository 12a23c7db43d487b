-- The run of a plan.
use Rattle.std.proofs.Common.{◌≡◌, ◌≤◌, ◌⊎◌, [], inl, inr, ℕ, List, Bool, true, false, Some, None, refl, sym, ap, subst}
use Rattle.std.proofs.Common.{◌∙◌, ◌||◌, arith}
use Rattle.std.specs.declared.option.Option.{Option}
use Rattle.units_io.specs.Bytes.{sink_bytes_append, SinkGrowsByPrefix}
use Rattle.units_io.specs.Faults.{HasIoCountRisen}
use Rattle.units_io.specs.FileMap.{FileMap}
use Rattle.units_io.specs.NamedValues.{NamedTexts}
use Rattle.session.specs.HeardLines.{heard_lines}
use Rattle.session.specs.Input.{input_lines}
use Rattle.std.proofs.lemmas.List.{append-nil}
use Rattle.std.proofs.Math.Bool.{or-true}
use Rattle.std.proofs.lemmas.Option.{same_Some}
use Rattle.std.proofs.lemmas.Bool.{both_ways, or_parts}
use Rattle.session.specs.Outside.{SessionOutside, SessionSinkGrowsAtLeast}
use Rattle.session.specs.Sessions.{SessionState}
use Rattle.session.specs.Talks.{SessionTrace}
use Rattle.session.specs.KnownContents.{IsSessionValueIfKnown, next_session_value_if_known}
use Rattle.session.specs.BetweenPieces.{OpensSession}
use Rattle.session.specs.WrittenOutput.{IsAllSessionOutput, IsSessionEnded, IsSessionPrefixRun, SessionCourse}
use Rattle.session.specs.WrittenOutput.{output_of_session_course, session_course}
use Rattle.session.specs.declared.over_source.SessionEnd.{SessionEnd}
use Rattle.session.specs.declared.over_source.SessionEnd.TheVariants as end
use Rattle.session.specs.declared.session_output.OutputBuffers.{OutputBuffers}
use Rattle.units_run.specs.Calls.{run_over}
use Rattle.units_run.specs.Endings.{IsCleanRunEnd, IsPlanOutput, IsRunOutput, IsStatedRunEnd, IsWorkedRunEnd, RunMayEnd}
use Rattle.units_run.specs.Endings.{run_status_of_session_end}
use Rattle.units_run.specs.LeftAlone.{RunOpensNoSession, RunTakesNoInput}
use Rattle.units_run.specs.Needs.{run_converts_column, run_needs_definitions, run_opens_session}
use Rattle.units_run.specs.ProgramPlans.{IsPlan}
use Rattle.units_run.specs.Plans as plans
use Rattle.units_run.specs.Work.{plan_of}
use Rattle.units_run.specs.declared.column_plan.ColumnPlan.{ColumnPlan}
use Rattle.units_run.specs.declared.plan.Plan.TheVariants.{Whole, Opened, Columns}
use Rattle.units_run.specs.declared.status.Status.{Status}
use Rattle.units_run.specs.declared.status.Status.TheVariants.{Done, Refused, Usage, NoFile, ReadFault, WriteFault}
use Rattle.units_run.specs.declared.status.Status.TheVariants.{NoMemory, InputTooLong}
use Rattle.units_run.proofs.SessionFiles.{SeesFiles}
use Rattle.units_run.proofs.WrittenBytes.{column_run_sink_grows_by_none}

-- the status of a whole plan is a stated ending
pub run_may_end_as_stated : (taken file session : Bool) (status : Status) → RunMayEnd taken file session status
    → IsStatedRunEnd status
run_may_end_as_stated false file session status is = subst IsStatedRunEnd (sym is) tt
run_may_end_as_stated true file session Done may = tt
run_may_end_as_stated true file session Refused may = tt
run_may_end_as_stated true file session Usage may = tt
run_may_end_as_stated true file session NoFile may = tt
run_may_end_as_stated true file session ReadFault may = absurd may
run_may_end_as_stated true file session WriteFault may = absurd may
run_may_end_as_stated true file session NoMemory may = absurd may
run_may_end_as_stated true file session InputTooLong may = absurd may

-- the ways in which valid words may end, whether or not they lead to a session
pub run_of_valid_words_may_end : (taken file session opens : Bool) (status : Status) → taken ≡ true → session ≡ opens
    → RunMayEnd true file opens status → RunMayEnd taken file session status
run_of_valid_words_may_end taken file session opens status is_taken is may =
    subst (λ (t : Bool). RunMayEnd t file session status) (sym is_taken)
    (subst (λ (s : Bool). RunMayEnd true file s status) (sym is) may)

pub whole_run_output_is_written : (course : SessionCourse) (wanted status : Status) (before after : SessionOutside)
    → IsStatedRunEnd status → status ≡ wanted
    → IsAllSessionOutput (output_of_session_course course) before after → IsRunOutput course wanted status before after
whole_run_output_is_written course wanted Done before after stated is all = (is, all)
whole_run_output_is_written course wanted Refused before after stated is all = (is, all)
whole_run_output_is_written course wanted Usage before after stated is all = (is, all)
whole_run_output_is_written course wanted NoFile before after stated is all = (is, all)
whole_run_output_is_written course wanted ReadFault before after stated is all = absurd stated
whole_run_output_is_written course wanted WriteFault before after stated is all = absurd stated
whole_run_output_is_written course wanted NoMemory before after stated is all = absurd stated
whole_run_output_is_written course wanted InputTooLong before after stated is all = absurd stated

-- the course of a plan, and its ending
abbrev pub plan_course : plans.Plan → FileMap → (input : List ℕ) → SessionCourse
plan_course want files input = record { output_for = λ lines. (run_over want files input lines).output; input = input }

abbrev pub plan_end : plans.Plan → FileMap → (input : List ℕ) → Status
plan_end want files input = (run_over want files input (heard_lines (input_lines input))).status

-- the run of a whole plan that is written in full
pub whole_run : (want : plans.Plan) (files : FileMap) (input : List ℕ) (buffers : OutputBuffers) (status : Status)
    (before after : SessionOutside) → IsStatedRunEnd status → IsPlan want files (Whole buffers status) before.steps
    after.steps
    → after.out ≡ sink_bytes_append before.out buffers.out.items
    → after.err ≡ sink_bytes_append before.err buffers.err.items
    → after.files ≡ next_session_value_if_known before.files files
    → IsPlanOutput want (plan_course want files input) (plan_end want files input) status before after
whole_run (plans.Whole run) files input buffers status before after stated planned out err kept =
    whole_run_output_is_written (plan_course (plans.Whole run) files input) run.status status before after stated
    planned.status_is
    (record {
      out = out ∙ ap (sink_bytes_append before.out) planned.out;
      err = err ∙ ap (sink_bytes_append before.err) planned.err;
      files = kept;
      steps = planned.steps;
    })
whole_run (plans.Opened talk) files input buffers status before after stated planned out err kept = absurd planned
whole_run (plans.Columns work) files input buffers status before after stated planned out err kept = absurd planned

-- the plan of a session, which is opened
pub planned_session_is_opened : (want : plans.Plan) (files : FileMap) (buffers : OutputBuffers) (session : SessionState)
    (before now : SessionOutside)
    → IsPlan want files (Opened buffers session) before.steps now.steps → now.out ≡ before.out → now.err ≡ before.err
    → now.files ≡ before.files → before.files ≡ next_session_value_if_known before.files files
    → before.fetch_faults ≤ now.fetch_faults
    → before.store_faults ≤ now.store_faults → (first : SessionTrace) × (want ≡ plans.Opened first) × OpensSession first
    buffers
    session
    before now
planned_session_is_opened (plans.Whole run) files buffers session before now planned out err kept files_if_known faults
    stores =
    absurd planned
planned_session_is_opened (plans.Columns work) files buffers session before now planned out err kept files_if_known
    faults
    stores =
    absurd planned
planned_session_is_opened (plans.Opened first) files buffers session before now planned out err kept files_if_known
    faults
    stores = (
      first,
      refl,
      record {
        out = out;
        err = err;
        files = kept;
        faults = faults;
        stores = stores;
        is_at = record {
          out = planned.out;
          err = planned.err;
          session = planned.session;
          files = kept ∙ files_if_known ∙ ap (next_session_value_if_known before.files)
              (same_Some files first.state.files planned.files);
          steps = planned.steps;
        };
      },
    )

session_run_output_is_written : (course : SessionCourse) (end : SessionEnd) (before after : SessionOutside)
    → IsSessionEnded course end before after
    → IsRunOutput course Done (run_status_of_session_end end) before after
session_run_output_is_written course end.Done before after ended = (refl, ended)
session_run_output_is_written course end.ReadFault before after ended = ended
session_run_output_is_written course end.WriteFault before after ended = ended
session_run_output_is_written course end.NoMemory before after ended = ended
session_run_output_is_written course end.InputTooLong before after ended = ended

-- the run of a plan with a session is that of the session
pub run_of_opened_session : (want : plans.Plan) (first : SessionTrace) (files : FileMap) (input : List ℕ)
    (end : SessionEnd)
    (before after : SessionOutside) → want ≡ plans.Opened first → IsSessionEnded (session_course first input) end before
    after
    → IsPlanOutput want (plan_course want files input) (plan_end want files input) (run_status_of_session_end end)
    before after
run_of_opened_session want first files input end before after is ended =
    subst
    (λ (w : plans.Plan). IsPlanOutput w (plan_course w files input) (plan_end w files input)
    (run_status_of_session_end end) before after)
    (sym is) (session_run_output_is_written (session_course first input) end before after ended)

-- if nothing is written, the new bytes are a front of anything
pub unwritten_run_output_is_front : (o after : Option (List ℕ)) (xs : List ℕ) → after ≡ o → SinkGrowsByPrefix o after xs
unwritten_run_output_is_front o after xs e = (0, omega arith, e ∙ column_run_sink_grows_by_none o)

-- if no line is answered and nothing is written, the output is a part of the whole
unbegun_run_output_is_part : (want : plans.Plan) (files : FileMap) (input : List ℕ) (before after : SessionOutside)
    → SeesFiles want files
    → after.out ≡ before.out → after.err ≡ before.err → after.files ≡ next_session_value_if_known before.files files
    → IsSessionPrefixRun (plan_course want files input) before after
unbegun_run_output_is_part want files input before after sees o e kept = record {
  answered_lines = [];
  lines_left = heard_lines (input_lines input);
  lines_split = refl;
  output_front = record {
    out = unwritten_run_output_is_front before.out after.out ((plan_course want files input).output_for []).out o;
    err = unwritten_run_output_is_front before.err after.err ((plan_course want files input).output_for []).err e;
  };
  files = kept ∙ ap (next_session_value_if_known before.files) (by want sees);
}
  where
    by : (w : plans.Plan) → SeesFiles w files → files ≡ (run_over w files input []).output.files
    by (plans.Whole run) sees = refl
    by (plans.Opened talk) sees = sym sees
    by (plans.Columns work) sees = refl

-- the run without a plan because a file could not be read
pub unread_run : (want : plans.Plan) (files : FileMap) (input : List ℕ) (before after : SessionOutside)
    → SeesFiles want files
    → after.out ≡ before.out → after.err ≡ before.err → after.files ≡ next_session_value_if_known before.files files
    → HasIoCountRisen before.fetch_faults after.fetch_faults
    → IsPlanOutput want (plan_course want files input) (plan_end want files input) ReadFault before after
unread_run (plans.Whole run) files input before after sees o e kept rose =
    (unbegun_run_output_is_part (plans.Whole run) files input before after sees o e kept, λ calm. absurd (calm rose))
unread_run (plans.Opened talk) files input before after sees o e kept rose =
    (unbegun_run_output_is_part (plans.Opened talk) files input before after sees o e kept, λ calm. absurd (calm rose))
unread_run (plans.Columns work) files input before after sees o e kept rose =
    (o, unwritten_run_output_is_front before.err after.err _ e)

-- the run without a plan because memory ran out
pub unmade_run : (want : plans.Plan) (files : FileMap) (input : List ℕ) (before after : SessionOutside)
    → SeesFiles want files
    → after.out ≡ before.out → after.err ≡ before.err → after.files ≡ next_session_value_if_known before.files files
    → IsPlanOutput want (plan_course want files input) (plan_end want files input) NoMemory before after
unmade_run (plans.Whole run) files input before after sees o e kept =
    unbegun_run_output_is_part (plans.Whole run) files input before after sees o e kept
unmade_run (plans.Opened talk) files input before after sees o e kept =
    unbegun_run_output_is_part (plans.Opened talk) files input before after sees o e kept
unmade_run (plans.Columns work) files input before after sees o e kept =
    record {
      out = unwritten_run_output_is_front before.out after.out _ o;
      err =
          unwritten_run_output_is_front before.err after.err _ e;
    }

-- the run of a whole plan that is written in part
pub cut_run : (want : plans.Plan) (files : FileMap) (input : List ℕ) (buffers : OutputBuffers) (status : Status)
    (before after : SessionOutside) → IsPlan want files (Whole buffers status) before.steps after.steps
    → SinkGrowsByPrefix before.out after.out buffers.out.items
    → SinkGrowsByPrefix before.err after.err buffers.err.items
    → after.files ≡ next_session_value_if_known before.files files
    → IsPlanOutput want (plan_course want files input) (plan_end want files input) WriteFault before after
cut_run (plans.Whole run) files input buffers status before after planned out err kept = record {
  answered_lines = [];
  lines_left = heard_lines (input_lines input);
  lines_split = refl;
  output_front = record {
    out = subst (SinkGrowsByPrefix before.out after.out) planned.out out;
    err = subst (SinkGrowsByPrefix before.err after.err) planned.err err;
  };
  files = (files, kept, inl refl);
}
cut_run (plans.Opened talk) files input buffers status before after planned out err kept = absurd planned
cut_run (plans.Columns work) files input buffers status before after planned out err kept = absurd planned

-- a read fault is neither a write fault nor input that is too long
pub run_read_fault_is_no_write_fault : ReadFault ≡ WriteFault → ⊥
run_read_fault_is_no_write_fault is = cc

pub run_read_fault_is_not_too_long : ReadFault ≡ InputTooLong → ⊥
run_read_fault_is_not_too_long is = cc

-- running out of memory is none of these endings
pub run_memory_end_is_not_done : NoMemory ≡ Done → ⊥
run_memory_end_is_not_done is = cc

pub run_memory_end_is_no_read_fault : NoMemory ≡ ReadFault → ⊥
run_memory_end_is_no_read_fault is = cc

pub run_memory_end_is_no_write_fault : NoMemory ≡ WriteFault → ⊥
run_memory_end_is_no_write_fault is = cc

pub run_memory_end_is_not_too_long : NoMemory ≡ InputTooLong → ⊥
run_memory_end_is_not_too_long is = cc

-- the files do not change if nothing changes them
pub run_files_stay_known : (needed : Bool) (files : Option FileMap) (m : FileMap) → IsSessionValueIfKnown needed files m
    → files ≡ next_session_value_if_known files m
run_files_stay_known needed None m h = refl
run_files_stay_known needed (Some files_if_known) m h = ap Some h

-- a run ends with a read fault only if its session does
pub run_read_fault_of_session : (e : SessionEnd) → run_status_of_session_end e ≡ ReadFault → e ≡ end.ReadFault
run_read_fault_of_session end.Done is = cc
run_read_fault_of_session end.ReadFault is = refl
run_read_fault_of_session end.WriteFault is = cc
run_read_fault_of_session end.NoMemory is = cc
run_read_fault_of_session end.InputTooLong is = cc

pub run_write_fault_of_session : (e : SessionEnd) → run_status_of_session_end e ≡ WriteFault → e ≡ end.WriteFault
run_write_fault_of_session end.Done is = cc
run_write_fault_of_session end.ReadFault is = cc
run_write_fault_of_session end.WriteFault is = refl
run_write_fault_of_session end.NoMemory is = cc
run_write_fault_of_session end.InputTooLong is = cc

pub run_input_too_long_of_session : (e : SessionEnd) → run_status_of_session_end e ≡ InputTooLong → e ≡ end.InputTooLong
run_input_too_long_of_session end.Done is = cc
run_input_too_long_of_session end.ReadFault is = cc
run_input_too_long_of_session end.WriteFault is = cc
run_input_too_long_of_session end.NoMemory is = cc
run_input_too_long_of_session end.InputTooLong is = refl

pub run_done_of_session : (e : SessionEnd) → run_status_of_session_end e ≡ Done → e ≡ end.Done
run_done_of_session end.Done is = refl
run_done_of_session end.ReadFault is = cc
run_done_of_session end.WriteFault is = cc
run_done_of_session end.NoMemory is = cc
run_done_of_session end.InputTooLong is = cc

pub session_run_has_its_file : (e : SessionEnd) → run_status_of_session_end e ≡ NoFile → ⊥
session_run_has_its_file end.Done is = cc
session_run_has_its_file end.ReadFault is = cc
session_run_has_its_file end.WriteFault is = cc
session_run_has_its_file end.NoMemory is = cc
session_run_has_its_file end.InputTooLong is = cc

-- a session with a stated ending is done
pub stated_session_run_may_end : (file : Bool) (e : SessionEnd) → IsStatedRunEnd (run_status_of_session_end e)
    → RunMayEnd true file true (run_status_of_session_end e)
stated_session_run_may_end file end.Done s = tt
stated_session_run_may_end file end.ReadFault s = absurd s
stated_session_run_may_end file end.WriteFault s = absurd s
stated_session_run_may_end file end.NoMemory s = absurd s
stated_session_run_may_end file end.InputTooLong s = absurd s

-- a whole plan opens no session and converts no column
pub whole_plan_opens_no_session : (want : plans.Plan) (files : FileMap) (buffers : OutputBuffers)
    (session : SessionState)
    (old new : ℕ)
    → plans.IsWholePlan want → IsPlan want files (Opened buffers session) old new → ⊥
whole_plan_opens_no_session (plans.Whole run) files buffers session old new whole planned = planned
whole_plan_opens_no_session (plans.Opened talk) files buffers session old new whole planned = whole
whole_plan_opens_no_session (plans.Columns work) files buffers session old new whole planned = whole

pub whole_plan_converts_no_column : (want : plans.Plan) (files : FileMap) (plan : ColumnPlan) (old new : ℕ)
    → plans.IsWholePlan want → IsPlan want files (Columns plan) old new → ⊥
whole_plan_converts_no_column (plans.Whole run) files plan old new whole planned = planned
whole_plan_converts_no_column (plans.Opened talk) files plan old new whole planned = whole
whole_plan_converts_no_column (plans.Columns work) files plan old new whole planned = whole

pub run_is_neither_of_both : {A B : Type 0} → (A → ⊥) → (B → ⊥) → A ⊎ B → ⊥
run_is_neither_of_both a b (inl x) = a x
run_is_neither_of_both a b (inr x) = b x

-- a session that was opened is not a run that opens none
pub session_run_opens_a_session : (words : List (List ℕ)) (vars : NamedTexts) (files_if_known : Option FileMap)
    (buffers : OutputBuffers)
    (session : SessionState)
    (e : SessionEnd) (ending : Status) (old new : ℕ) → run_opens_session words ≡ true
    → run_status_of_session_end e ≡ ending
    → ((m : FileMap) → IsSessionValueIfKnown (run_needs_definitions words) files_if_known m
    → IsPlan (plan_of words vars m) m (Opened buffers session) old new)
    → RunOpensNoSession words vars ending files_if_known → ⊥
session_run_opens_a_session words vars files_if_known buffers session e ending old new opens is planned =
    run_is_neither_of_both (λ (e : run_opens_session words ≡ false). both_ways (run_opens_session words) e opens)
    (run_is_neither_of_both (λ file. session_run_has_its_file e (is ∙ file))
    (λ whole.
    whole_plan_opens_no_session (plan_of words vars whole.0) whole.0 buffers session old new whole.2
    (planned whole.0 whole.1)))

-- a run that reads no input opens no session
pub run_without_input_opens_no_session : (words : List (List ℕ)) (vars : NamedTexts) (ending : Status)
    (files_if_known : Option FileMap)
    → RunTakesNoInput words vars ending files_if_known → RunOpensNoSession words vars ending files_if_known
run_without_input_opens_no_session words vars ending files_if_known (inl none) =
    inl (or_parts (run_opens_session words) (run_converts_column words) none).0
run_without_input_opens_no_session words vars ending files_if_known (inr none) = inr none

-- a whole run cannot end with `Done` if its words lead to a session, because then there is no deck
pub whole_session_run_is_not_done : (session column : Bool) (status : Status)
    → ((session || column) ≡ true → status ≡ NoFile)
    → session ≡ true → status ≡ Done → ⊥
whole_session_run_is_not_done true column status h opens done = let e : Done ≡ NoFile = sym done ∙ h refl in cc
whole_session_run_is_not_done false column status h opens done = cc

pub whole_column_plan_is_not_worked : (session column : Bool) (status : Status)
    → ((session || column) ≡ true → status ≡ NoFile)
    → column ≡ true → IsWorkedRunEnd status → ⊥
whole_column_plan_is_not_worked session true status h converts worked = subst IsWorkedRunEnd (h (or-true session))
    worked
whole_column_plan_is_not_worked session false status h converts worked = cc

-- an ending that is neither a read fault nor a write fault is not a fault
pub run_end_without_fault_is_clean : (ending : Status) → (ending ≡ ReadFault → ⊥) → (ending ≡ WriteFault → ⊥)
    → IsCleanRunEnd ending
run_end_without_fault_is_clean Done read write = tt
run_end_without_fault_is_clean Refused read write = tt
run_end_without_fault_is_clean Usage read write = tt
run_end_without_fault_is_clean NoFile read write = tt
run_end_without_fault_is_clean ReadFault read write = absurd (read refl)
run_end_without_fault_is_clean WriteFault read write = absurd (write refl)
run_end_without_fault_is_clean NoMemory read write = tt
run_end_without_fault_is_clean InputTooLong read write = tt

-- a sink to which bytes were written has grown by at least those bytes
pub run_sink_has_grown_by_its_bytes : (before after : Option (List ℕ)) (bytes buffers : List ℕ) → buffers ≡ bytes
    → after ≡ sink_bytes_append before buffers
    → SessionSinkGrowsAtLeast before after bytes
run_sink_has_grown_by_its_bytes before after bytes buffers is all =
    ([], all ∙ ap (sink_bytes_append before) (is ∙ sym (append-nil bytes)))
