-- The output that a planned run writes first.
use Rattle.std.proofs.Common.{◌≡◌, ◌∙◌, ◌⊎◌, [], inl, inr, ℕ, List, subst, sym}
use Rattle.std.specs.declared.option.Option.{Option}
use Rattle.session.specs.Outside.{SessionSinkGrowsAtLeast}
use Rattle.session.specs.Sessions.{SessionState}
use Rattle.session.specs.declared.session_output.OutputBuffers.{OutputBuffers}
use Rattle.units_io.specs.Bytes.{sink_bytes_append}
use Rattle.units_io.specs.FileMap.{FileMap}
use Rattle.units_run.specs.Openings.{IsPlanOpened, first_plan_text_on_err}
use Rattle.units_run.specs.ProgramPlans.{IsPlan}
use Rattle.units_run.specs.Plans as plans
use Rattle.units_run.specs.declared.check_plan.CheckPlan.{CheckPlan}
use Rattle.units_run.specs.declared.column_plan.ColumnPlan.{ColumnPlan}
use Rattle.units_run.specs.declared.plan.Plan.TheVariants.{Whole, Check, Opened, Columns}
use Rattle.units_run.specs.declared.status.Status.{Status}
use Rattle.units_run.proofs.PlanRuns.{run_sink_has_grown_by_its_bytes}
use Rattle.units_run.proofs.WrittenBytes.{column_run_sink_grows_by_none}

-- with a whole plan, `err` has all its bytes before `out` has any
pub whole_plan_err_before_out : {A : Type 0} (want : plans.Plan) (m : FileMap) (buffers : OutputBuffers)
    (status : Status)
    (old new : ℕ)
    (before after : Option (List ℕ)) → IsPlan want m (Whole buffers status) old new
    → A ⊎ (after ≡ sink_bytes_append before buffers.err.items) → A ⊎ SessionSinkGrowsAtLeast before after
    (first_plan_text_on_err want)
whole_plan_err_before_out (plans.Whole run) m buffers status old new before after planned (inl a) = inl a
whole_plan_err_before_out (plans.Whole run) m buffers status old new before after planned (inr all) =
    inr (run_sink_has_grown_by_its_bytes before after run.err buffers.err.items planned.err all)
whole_plan_err_before_out (plans.Opened talk) m buffers status old new before after planned w = absurd planned
whole_plan_err_before_out (plans.Columns work) m buffers status old new before after planned w = absurd planned

-- a check writes nothing to `err`
pub check_plan_writes_no_err : (want : plans.Plan) (m : FileMap) (plan : CheckPlan) (old new : ℕ)
    (before after : Option (List ℕ))
    → IsPlan want m (Check plan) old new → after ≡ before → SessionSinkGrowsAtLeast before after
    (first_plan_text_on_err want)
check_plan_writes_no_err (plans.Whole run) m plan old new before after planned same =
    run_sink_has_grown_by_its_bytes before after run.err [] (sym planned.err)
    (same ∙ column_run_sink_grows_by_none before)
check_plan_writes_no_err (plans.Opened talk) m plan old new before after planned same = absurd planned
check_plan_writes_no_err (plans.Columns work) m plan old new before after planned same = absurd planned

-- with a session, `err` has its opening before `out` has any bytes
pub session_plan_err_before_out : {A : Type 0} (want : plans.Plan) (m : FileMap) (buffers : OutputBuffers)
    (session : SessionState)
    (old new : ℕ)
    (before after : Option (List ℕ)) → IsPlan want m (Opened buffers session) old new
    → A ⊎ SessionSinkGrowsAtLeast before after buffers.err.items → A ⊎ SessionSinkGrowsAtLeast before after
    (first_plan_text_on_err want)
session_plan_err_before_out (plans.Whole run) m buffers session old new before after planned w = absurd planned
session_plan_err_before_out (plans.Opened talk) m buffers session old new before after planned (inl a) = inl a
session_plan_err_before_out (plans.Opened talk) m buffers session old new before after planned (inr more) =
    inr (subst (SessionSinkGrowsAtLeast before after) (sym planned.err) more)
session_plan_err_before_out (plans.Columns work) m buffers session old new before after planned w = absurd planned

pub session_plan_opening : {A : Type 0} (want : plans.Plan) (m : FileMap) (buffers : OutputBuffers)
    (session : SessionState)
    (old new : ℕ)
    (out out_now err err_now : Option (List ℕ)) → IsPlan want m (Opened buffers session) old new
    → A ⊎ (SessionSinkGrowsAtLeast out out_now buffers.out.items
    × SessionSinkGrowsAtLeast err err_now buffers.err.items)
    → A ⊎ IsPlanOpened want out out_now err err_now
session_plan_opening (plans.Whole run) m buffers session old new out out_now err err_now planned w = absurd planned
session_plan_opening (plans.Opened talk) m buffers session old new out out_now err err_now planned (inl a) = inl a
session_plan_opening (plans.Opened talk) m buffers session old new out out_now err err_now planned (inr both) =
    inr (
      subst (SessionSinkGrowsAtLeast out out_now) (sym planned.out) both.0,
      subst (SessionSinkGrowsAtLeast err err_now) (sym planned.err) both.1,
    )
session_plan_opening (plans.Columns work) m buffers session old new out out_now err err_now planned w = absurd planned

-- with a column, `err` has the notices before `out` has any bytes
pub column_plan_err_before_out : {A B : Type 0} (want : plans.Plan) (m : FileMap) (plan : ColumnPlan) (old new : ℕ)
    (before after : Option (List ℕ)) → IsPlan want m (Columns plan) old new
    → (A × B) ⊎ (after ≡ sink_bytes_append before plan.notices.items) → B ⊎ SessionSinkGrowsAtLeast before after
    (first_plan_text_on_err want)
column_plan_err_before_out (plans.Whole run) m plan old new before after planned w = absurd planned
column_plan_err_before_out (plans.Opened talk) m plan old new before after planned w = absurd planned
column_plan_err_before_out (plans.Columns work) m plan old new before after planned (inl both) = inl both.1
column_plan_err_before_out (plans.Columns work) m plan old new before after planned (inr all) =
    inr (run_sink_has_grown_by_its_bytes before after work.err plan.notices.items planned.err all)

pub column_plan_opening : {A B : Type 0} (want : plans.Plan) (m : FileMap) (plan : ColumnPlan) (old new : ℕ)
    (out out_now err err_now : Option (List ℕ)) → IsPlan want m (Columns plan) old new
    → (A × B) ⊎ (err_now ≡ sink_bytes_append err plan.notices.items) → A ⊎ IsPlanOpened want out out_now err err_now
column_plan_opening (plans.Whole run) m plan old new out out_now err err_now planned w = absurd planned
column_plan_opening (plans.Opened talk) m plan old new out out_now err err_now planned w = absurd planned
column_plan_opening (plans.Columns work) m plan old new out out_now err err_now planned (inl both) = inl both.0
column_plan_opening (plans.Columns work) m plan old new out out_now err err_now planned (inr all) =
    inr (run_sink_has_grown_by_its_bytes err err_now work.err plan.notices.items planned.err all)
