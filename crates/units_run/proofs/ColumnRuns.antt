-- The conversion of a column.
use Rattle.std.proofs.Common.{◌≡◌, ◌+◌, ◌∙◌, ℕ, Bool, true, false, List, Option, refl, sym, ap, subst, if◌then◌else◌}
use Rattle.deck.specs.Tables.{table_of_deck}
use Rattle.live_table.specs.TableView.{IsAfterLiveEvents, LiveView}
use Rattle.live_table.specs.States.{LiveEvent}
use Rattle.reply.specs.declared.options.Options.{Options}
use Rattle.units_io.specs.Bytes.{sink_bytes_append}
use Rattle.units_io.specs.FileMap.{FileMap}
use Rattle.session.specs.Outside.{SessionOutside, session_outside}
use Rattle.session.specs.Queries.{LeavesSessionTableLaw, fresh_session_table}
use Rattle.session.specs.KnownContents.{next_session_value_if_known}
use Rattle.column_convert.specs.Inputs.{column_input_of_text}
use Rattle.column_convert.specs.Rows.{queries, rows}
use Rattle.column_convert.specs.Blocks.{is_error_row}
use Rattle.session.proofs.Blocks.{all_session_output_is_front}
use Rattle.units_run.specs.Calls.{column_run, run_column_rows, run_column_steps}
use Rattle.units_run.specs.ColumnOutputs.{AreColumnRunRowsWritten, is_column_run_over}
use Rattle.units_run.specs.ColumnTasks.{column_run_queries_of_bytes, column_run_rows_of_bytes}
use Rattle.units_run.specs.Endings.{IsPlanOutput, IsRunColumnOutput, IsStatedRunEnd, IsWorkedRunEnd, RunMayEnd}
use Rattle.units_run.specs.Endings.{run_status_of_column_end}
use Rattle.units_run.specs.ProgramPlans.{IsColumnPlan, IsPlan}
use Rattle.units_run.specs.Plans as plans
use Rattle.units_run.specs.Plans.{PlannedColumnWork}
use Rattle.units_run.specs.declared.column_end.ColumnEnd.{ColumnEnd}
use Rattle.units_run.specs.declared.column_end.ColumnEnd.TheVariants as column
use Rattle.units_run.specs.declared.column_task.ColumnTask.{ColumnTask}
use Rattle.units_run.specs.declared.column_plan.ColumnPlan.{ColumnPlan}
use Rattle.units_run.specs.declared.plan.Plan.TheVariants.{Columns}
use Rattle.units_run.specs.declared.status.Status.{Status}
use Rattle.units_run.specs.declared.status.Status.TheVariants as status
use Rattle.units_run.specs.declared.status.Status.TheVariants.{Done, Refused}
use Rattle.units_run.proofs.PlanRuns.{plan_course, plan_end}

-- the ending of the rows as an ending of the run
done_rows_end_run_with_done : (refused : Bool) → (if refused then column.Refused else column.Done) ≡ column.Done
    → Done ≡ (if refused then Refused else Done)
done_rows_end_run_with_done true e = cc
done_rows_end_run_with_done false e = refl

refused_rows_end_run_with_refused : (refused : Bool)
    → (if refused then column.Refused else column.Done) ≡ column.Refused
    → Refused ≡ (if refused then Refused else Done)
refused_rows_end_run_with_refused true e = refl
refused_rows_end_run_with_refused false e = cc

module _ (work : PlannedColumnWork) (m : FileMap) (input : List ℕ) (before after : SessionOutside)
    (noticed : after.err ≡ sink_bytes_append before.err work.err)
    (files : after.files ≡ next_session_value_if_known before.files m) where
  -- a conversion with this ending, from what its rows wrote
  pub converted : (end : ColumnEnd) → AreColumnRunRowsWritten (run_column_rows work input) end before.out after.out
      → (is_column_run_over end ≡ true → after.steps ≡ before.steps + run_column_steps work input)
      → IsRunColumnOutput (column_run work m input).output (column_run work m input).status
      (run_status_of_column_end end) before after
  converted column.Done w counted = (
    done_rows_end_run_with_done (is_error_row (run_column_rows work input)) w.0,
    record { out = w.1; err = noticed; files = files; steps = counted refl },
  )
  converted column.Refused w counted = (
    refused_rows_end_run_with_refused (is_error_row (run_column_rows work input)) w.0,
    record { out = w.1; err = noticed; files = files; steps = counted refl },
  )
  converted column.ReadFault w counted = (w, all_session_output_is_front _ _ _ noticed)
  converted column.InputTooLong w counted = (w, all_session_output_is_front _ _ _ noticed)
  converted column.WriteFault w counted = record { out = w; err = all_session_output_is_front _ _ _ noticed }
  converted column.NoMemory w counted = record { out = w; err = all_session_output_is_front _ _ _ noticed }

-- a stated ending of a column is one after all the work was done
pub stated_column_end_is_worked_run : (end : ColumnEnd) → IsStatedRunEnd (run_status_of_column_end end)
    → IsWorkedRunEnd (run_status_of_column_end end)
stated_column_end_is_worked_run column.Done s = tt
stated_column_end_is_worked_run column.Refused s = tt
stated_column_end_is_worked_run column.ReadFault s = absurd s
stated_column_end_is_worked_run column.WriteFault s = absurd s
stated_column_end_is_worked_run column.NoMemory s = absurd s
stated_column_end_is_worked_run column.InputTooLong s = absurd s

-- a run that opens no session may end after all the work was done
pub worked_run_may_end : (file : Bool) (status : Status) → IsWorkedRunEnd status → RunMayEnd true file false status
worked_run_may_end file status.Done w = tt
worked_run_may_end file status.Refused w = refl
worked_run_may_end file status.Usage w = absurd w
worked_run_may_end file status.NoFile w = absurd w
worked_run_may_end file status.ReadFault w = absurd w
worked_run_may_end file status.WriteFault w = absurd w
worked_run_may_end file status.NoMemory w = absurd w
worked_run_may_end file status.InputTooLong w = absurd w

-- the plan of a column
pub plan_of_column_has_its_work : (want : plans.Plan) (m : FileMap) (plan : ColumnPlan) (old new : ℕ)
    → IsPlan want m (Columns plan) old new
    → (work : PlannedColumnWork) × (want ≡ plans.Columns work) × IsColumnPlan work plan old new
plan_of_column_has_its_work (plans.Whole run) m plan old new planned = absurd planned
plan_of_column_has_its_work (plans.Opened talk) m plan old new planned = absurd planned
plan_of_column_has_its_work (plans.Columns work) m plan old new planned = (work, refl, planned)

-- the output of a planned column, whatever the files are
pub planned_column_output : (want : plans.Plan) (work : PlannedColumnWork) (m : FileMap) (input : List ℕ)
    (status : Status)
    (before : SessionOutside) (left out err : Option (List ℕ)) (files same : Option FileMap) (fetches stores steps : ℕ)
    → want ≡ plans.Columns work → files ≡ same
    → IsRunColumnOutput (column_run work m input).output (column_run work m input).status status before
    (session_outside left out err same fetches stores steps)
    → IsPlanOutput want (plan_course want m input) (plan_end want m input) status before
    (session_outside left out err files fetches stores steps)
planned_column_output want work m input status before left out err files same fetches stores steps is kept converts =
    subst
    (λ (w : plans.Plan). IsPlanOutput w (plan_course w m input) (plan_end w m input) status before
    (session_outside left out err files fetches stores steps)) (sym is)
    (subst
    (λ (f : Option FileMap). IsRunColumnOutput (column_run work m input).output (column_run work m input).status status
    before
    (session_outside left out err f fetches stores steps)) (sym kept) converts)

module _ (work : PlannedColumnWork) (plan : ColumnPlan) (n now : ℕ) (at : IsColumnPlan work plan n now) where
  abbrev task : ColumnTask
  task = plan.task

  -- a function of the parts of the plan is that function of the parts of the work
  pub by_work : {X : Type 0} (f : LiveView → Options → (from to : List ℕ) → (column : ℕ) → (header : Bool) → X)
      → f task.table task.options task.from task.to task.column task.header
      ≡ f (fresh_session_table work.deck) work.options work.from work.to work.column work.header
  by_work f =
      ap (λ (s : LiveView). f s task.options task.from task.to task.column task.header) at.table
      ∙ ap (λ (o : Options). f (fresh_session_table work.deck) o task.from task.to task.column task.header) at.options
      ∙ ap (λ (t : List ℕ). f (fresh_session_table work.deck) work.options t task.to task.column task.header) at.from
      ∙ ap (λ (t : List ℕ). f (fresh_session_table work.deck) work.options work.from t task.column task.header) at.to
      ∙ ap (λ (k : ℕ). f (fresh_session_table work.deck) work.options work.from work.to k task.header) at.column
      ∙ ap (λ (h : Bool). f (fresh_session_table work.deck) work.options work.from work.to work.column h) at.header

  pub rows_same : (input : List ℕ) → column_run_rows_of_bytes task input ≡ run_column_rows work input
  rows_same input = by_work (λ s o f t k h. rows (table_of_deck s.deck) o f t (column_input_of_text input k h))

  -- the steps are those of the queries that were made
  pub steps_same : LeavesSessionTableLaw → (input : List ℕ) (after : LiveView) (new : ℕ)
      → IsAfterLiveEvents (column_run_queries_of_bytes task input) task.table after now new
      → new ≡ n + run_column_steps work input
  steps_same law input after new follows =
      let made = queries (table_of_deck work.deck) work.options work.from work.to
      (column_input_of_text input work.column work.header) in
      (law made (fresh_session_table work.deck) after now new
      (subst (λ (s : LiveView). IsAfterLiveEvents made s after now new) at.table
      (subst (λ (es : List LiveEvent). IsAfterLiveEvents es task.table after now new)
      (by_work (λ s o f t k h. queries (table_of_deck s.deck) o f t (column_input_of_text input k h))) follows))).steps
      ∙ ap (λ (k : ℕ). k + run_column_steps work input) at.steps
