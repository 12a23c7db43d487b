-- The plans of the program.
use Rattle.std.specs.Prelude.{◌≡◌, ◌+◌, ◌||◌, ◌≤◌, [], ℕ, List, Bool, true, false, Some, Result, Ok, Err, ⊤}
use Rattle.std.specs.Prelude.{if◌then◌else◌}
use Rattle.std.specs.declared.option.Option.{Option}
use Rattle.std.specs.declared.alloc.AllocError.{AllocError}
use Rattle.units_io.specs.FileMap.{FileMap}
use Rattle.def_lines.specs.Words.{is_empty}
use Rattle.live_table.specs.TableView.{IsAfterLiveEvents, LiveView}
use Rattle.reply.specs.Options.{AreReplyOptionsPrintable}
use Rattle.reply.specs.declared.reply.Reply.{Reply}
use Rattle.session.specs.Outside.{session_outside}
use Rattle.session.specs.SessionProgress.{IsAtPointOfTalk}
use Rattle.session.specs.KnownContents.{next_session_value_if_known}
use Rattle.session.specs.BetweenPieces.{session_base_at_start}
use Rattle.session.specs.declared.session_output.OutputBuffers.{OutputBuffers}
use Rattle.survey.specs.ConversionReplies.{SurveyedReply}
use Rattle.units_run.specs.Calls.{column_run}
use Rattle.units_run.specs.Checks.{planned_check_report, planned_check_steps}
use Rattle.units_run.specs.Endings.{IsRunColumnOutput, RunMayEnd}
use Rattle.units_run.specs.Plans as plans
use Rattle.units_run.specs.declared.plan.Plan.{Plan}
use Rattle.session.specs.Queries.{fresh_session_table}
use Rattle.units_run.specs.declared.check_plan.CheckPlan.{CheckPlan}
use Rattle.units_run.specs.declared.column_plan.ColumnPlan.{ColumnPlan}
use Rattle.units_run.specs.declared.plan.Plan.TheVariants.{Whole, Check, Opened, Columns}
use Rattle.units_run.specs.declared.status.Status.{Status}
use Rattle.units_run.specs.declared.status.Status.TheVariants.{Done, Refused, NoFile}

-- a whole run as output, with its steps taken
pub record IsWholePlanOutput (want : plans.WholeRun) (buffers : OutputBuffers) (status : Status)
    (steps_old steps_new : ℕ) : Type 0
  where
    pub out : buffers.out.items ≡ want.out
    pub err : buffers.err.items ≡ want.err
    pub status_is : status ≡ want.status
    pub steps : steps_new ≡ steps_old + want.steps

-- a check report to be written, with no step taken yet
pub record IsCheckPlan (want : plans.WholeRun) (plan : CheckPlan) (steps_old steps_new : ℕ) : Type 0 where
  pub out : want.out ≡ planned_check_report plan
  pub err : want.err ≡ []
  pub status_is : want.status ≡ (if is_empty want.out then Done else Refused)
  pub asks : want.steps ≡ planned_check_steps plan
  pub steps : steps_new ≡ steps_old

-- a column to be converted, with no step taken yet
pub record IsColumnPlan (want : plans.PlannedColumnWork) (plan : ColumnPlan) (steps_old steps_new : ℕ) : Type 0 where
  pub table : plan.task.table ≡ fresh_session_table want.deck
  pub options : plan.task.options ≡ want.options
  pub from : plan.task.from ≡ want.from
  pub to : plan.task.to ≡ want.to
  pub column : plan.task.column ≡ want.column
  pub header : plan.task.header ≡ want.header
  pub err : plan.notices.items ≡ want.err
  pub steps : steps_new ≡ steps_old

-- a plan of the program is this plan
abbrev pub IsPlan : plans.Plan → FileMap → Plan → (steps_old steps_new : ℕ) → Type 0
IsPlan (plans.Whole run) files (Whole buffers status) steps_old steps_new =
    IsWholePlanOutput run buffers status steps_old steps_new
IsPlan (plans.Whole run) files (Check plan) steps_old steps_new = IsCheckPlan run plan steps_old steps_new
IsPlan (plans.Opened talk) files (Opened buffers session) steps_old steps_new =
    IsAtPointOfTalk (session_base_at_start (Some files) steps_old) talk
    (record { output_buffers = buffers; session = session; files = Some files; steps = steps_new })
IsPlan (plans.Columns work) files (Columns plan) steps_old steps_new = IsColumnPlan work plan steps_old steps_new
IsPlan want files plan steps_old steps_new = ⊥

abbrev pub IsPlanned : {E : Type 0} → plans.Plan → FileMap → Result Plan E → (steps_old steps_new : ℕ) → Type 0
IsPlanned want files (Ok plan) steps_old steps_new = IsPlan want files plan steps_old steps_new
IsPlanned want files (Err _) steps_old steps_new = ⊤

-- the plans that are possible: a whole run, with a status that is allowed, and for words that lead to a session or a
-- column only because there is no deck; a check, if the words lead to neither; a session, if the words lead to one; and
-- a column, if the words lead to one, with options that can be printed and a number from 1
abbrev pub IsPossiblePlan : (taken file session column : Bool) → Plan → Type 0
IsPossiblePlan taken file session column (Whole buffers status) =
    ((session || column) ≡ true → status ≡ NoFile) × RunMayEnd taken file session status
IsPossiblePlan taken file session column (Check plan) =
    (taken ≡ true) × ((session || column) ≡ false) × AreReplyOptionsPrintable plan.options
IsPossiblePlan taken file session column (Opened buffers opened) = (taken ≡ true) × (session ≡ true)
IsPossiblePlan taken file session column (Columns plan) =
    (taken ≡ true) × (column ≡ true) × AreReplyOptionsPrintable plan.task.options × (1 ≤ plan.task.column)

-- the part of the world that a column conversion touches
pub record RunEnds : Type 0 where
  pub source_left : Option (List ℕ)
  pub out : Option (List ℕ)
  pub err : Option (List ℕ)
  pub steps : ℕ

abbrev pub run_ends : (left out err : Option (List ℕ)) → (steps : ℕ) → RunEnds
run_ends left out err steps = record { source_left = left; out = out; err = err; steps = steps }

-- a planned column is converted, whatever the files are
abbrev pub IsColumnPlanConverted : ColumnPlan → Status → (before after : RunEnds) → Type 0
IsColumnPlanConverted plan ending before after =
    (work : plans.PlannedColumnWork) (m : FileMap) (input : List ℕ) (files : Option FileMap)
    (faults now stores later n : ℕ) →
    before.source_left ≡ Some input → IsColumnPlan work plan n before.steps
    → files ≡ next_session_value_if_known files m →
    IsRunColumnOutput (column_run work m input).output (column_run work m input).status ending
    (session_outside before.source_left before.out before.err files faults stores n)
    (session_outside after.source_left after.out after.err files now later after.steps)

-- a live table gave this reply, and made the queries for it
abbrev pub IsRunReplyOf : SurveyedReply → Result Reply AllocError → LiveView → LiveView → (old new : ℕ) → Type 0
IsRunReplyOf asked (Ok reply) before after old new = (reply ≡ asked.reply) × IsAfterLiveEvents asked.queries before
    after old
    new
IsRunReplyOf asked (Err _) before after old new = ⊤
