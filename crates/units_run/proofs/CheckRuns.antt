-- The run of a planned check.
use Rattle.std.proofs.Common.{◌≡◌, ◌∙◌, ◌+◌, [], inl, ℕ, List, Bool, true, false, refl, sym, ap, subst, if◌then◌else◌}
use Rattle.units_io.specs.Bytes.{sink_bytes_append, SinkGrowsByPrefix}
use Rattle.units_io.specs.FileMap.{FileMap}
use Rattle.std.specs.declared.option.Option.{Option}
use Rattle.def_lines.specs.Words.{is_empty}
use Rattle.session.specs.HeardLines.{heard_lines}
use Rattle.session.specs.Input.{input_lines}
use Rattle.session.specs.Outside.{SessionOutside}
use Rattle.session.specs.KnownContents.{next_session_value_if_known}
use Rattle.session.specs.WrittenOutput.{IsAllSessionOutput, IsSessionOutputFront, SessionOutput}
use Rattle.units_run.specs.Checks.{IsRunReportWritten, planned_check_report, planned_check_steps}
use Rattle.units_run.specs.Endings.{IsPlanOutput, IsStatedRunEnd, IsWorkedRunEnd}
use Rattle.units_run.specs.ProgramPlans.{IsCheckPlan, IsPlan}
use Rattle.units_run.specs.Plans as plans
use Rattle.units_run.specs.declared.check_plan.CheckPlan.{CheckPlan}
use Rattle.units_run.specs.declared.plan.Plan.TheVariants.{Check}
use Rattle.units_run.specs.declared.status.Status.{Status}
use Rattle.units_run.specs.declared.status.Status.TheVariants.{Done, Refused, Usage, NoFile, ReadFault, WriteFault}
use Rattle.units_run.specs.declared.status.Status.TheVariants.{NoMemory, InputTooLong}
use Rattle.units_run.proofs.PlanRuns.{plan_course, plan_end, unwritten_run_output_is_front}
use Rattle.units_run.proofs.WrittenBytes.{column_run_sink_grows_by_none}

-- a check with a stated ending has done all its work
pub check_run_work_is_done : (bytes : List ℕ) (ending : Status) (before after : Option (List ℕ))
    → IsRunReportWritten bytes ending before after → IsStatedRunEnd ending → IsWorkedRunEnd ending
check_run_work_is_done bytes Done before after w stated = tt
check_run_work_is_done bytes Refused before after w stated = tt
check_run_work_is_done bytes Usage before after w stated = absurd w
check_run_work_is_done bytes NoFile before after w stated = absurd w
check_run_work_is_done bytes ReadFault before after w stated = absurd w
check_run_work_is_done bytes WriteFault before after w stated = absurd stated
check_run_work_is_done bytes NoMemory before after w stated = absurd stated
check_run_work_is_done bytes InputTooLong before after w stated = absurd w

-- a check reads no input
pub check_run_reads_no_input : (bytes : List ℕ) (ending : Status) (before after : Option (List ℕ))
    → IsRunReportWritten bytes ending before after → ending ≡ ReadFault → ⊥
check_run_reads_no_input bytes ending before after w is =
    subst (λ (e : Status). IsRunReportWritten bytes e before after) is w

pub check_run_input_is_not_too_long : (bytes : List ℕ) (ending : Status) (before after : Option (List ℕ))
    → IsRunReportWritten bytes ending before after → ending ≡ InputTooLong → ⊥
check_run_input_is_not_too_long bytes ending before after w is =
    subst (λ (e : Status). IsRunReportWritten bytes e before after) is w

module _ (run : plans.WholeRun) (files : FileMap) (input : List ℕ) (plan : CheckPlan) (now : ℕ)
    (before after : SessionOutside) (planned : IsCheckPlan run plan before.steps now) (err : after.err ≡ before.err)
    (kept : after.files ≡ next_session_value_if_known before.files files) where
  abbrev output : SessionOutput
  output = record { out = run.out; err = run.err; steps = run.steps; files = files }

  ends_by : (none : Bool) → is_empty (planned_check_report plan) ≡ none → (if none then Done else Refused) ≡ run.status
  ends_by none is =
      sym
      (planned.status_is
      ∙ ap (λ (bytes : List ℕ). if is_empty bytes then Done else Refused) planned.out
      ∙ ap (λ (b : Bool). if b then Done else Refused) is)

  all_written : after.out ≡ sink_bytes_append before.out (planned_check_report plan)
      → after.steps ≡ now + planned_check_steps plan
      → IsAllSessionOutput output before after
  all_written out counted = record {
    out = out ∙ ap (sink_bytes_append before.out) (sym planned.out);
    err = err ∙ column_run_sink_grows_by_none before.err ∙ ap (sink_bytes_append before.err) (sym planned.err);
    files = kept;
    steps =
        counted
        ∙ ap (λ (n : ℕ). n + planned_check_steps plan) planned.steps
        ∙ ap (λ (n : ℕ). before.steps + n) (sym planned.asks);
  }

  front_written : SinkGrowsByPrefix before.out after.out (planned_check_report plan)
      → IsSessionOutputFront output before after
  front_written out = record {
    out = subst (SinkGrowsByPrefix before.out after.out) (sym planned.out) out;
    err = unwritten_run_output_is_front before.err after.err run.err err;
  }

-- a planned check that is written in full or in part is the run
pub planned_check_is_the_run : (want : plans.Plan) (files : FileMap) (input : List ℕ) (plan : CheckPlan)
    (ending : Status) (now : ℕ)
    (before after : SessionOutside) → IsPlan want files (Check plan) before.steps now
    → IsRunReportWritten (planned_check_report plan) ending before.out after.out
    → (IsWorkedRunEnd ending → after.steps ≡ now + planned_check_steps plan) → after.err ≡ before.err
    → after.files ≡ next_session_value_if_known before.files files
    → IsPlanOutput want (plan_course want files input) (plan_end want files input) ending before after
planned_check_is_the_run (plans.Whole run) files input plan Done now before after planned w counted err kept = (
  ends_by run files input plan now before after planned err kept true w.0,
  all_written run files input plan now before after planned err kept w.1 (counted tt),
)
planned_check_is_the_run (plans.Whole run) files input plan Refused now before after planned w counted err kept = (
  ends_by run files input plan now before after planned err kept false w.0,
  all_written run files input plan now before after planned err kept w.1 (counted tt),
)
planned_check_is_the_run (plans.Whole run) files input plan WriteFault now before after planned w counted err kept =
    record {
      answered_lines = [];
      lines_left = heard_lines (input_lines input);
      lines_split = refl;
      output_front = front_written run files input plan now before after planned err kept w;
      files = (files, kept, inl refl);
    }
planned_check_is_the_run (plans.Whole run) files input plan NoMemory now before after planned w counted err kept =
    record {
      answered_lines = [];
      lines_left = heard_lines (input_lines input);
      lines_split = refl;
      output_front = front_written run files input plan now before after planned err kept w;
      files = kept;
    }
planned_check_is_the_run (plans.Whole run) files input plan Usage now before after planned w counted err kept = absurd w
planned_check_is_the_run (plans.Whole run) files input plan NoFile now before after planned w counted err kept =
    absurd w
planned_check_is_the_run (plans.Whole run) files input plan ReadFault now before after planned w counted err kept =
    absurd w
planned_check_is_the_run (plans.Whole run) files input plan InputTooLong now before after planned w counted err kept =
    absurd w
planned_check_is_the_run (plans.Opened talk) files input plan ending now before after planned w counted err kept =
    absurd planned
planned_check_is_the_run (plans.Columns work) files input plan ending now before after planned w counted err kept =
    absurd planned
