-- The output that a run writes first.
use Rattle.std.specs.Prelude.{ℕ, List}
use Rattle.std.specs.declared.option.Option.{Option}
use Rattle.session.specs.Outside.{SessionSinkGrowsAtLeast}
use Rattle.units_run.specs.Plans.{Plan, Whole, Opened, Columns}

-- before any input is read, both sinks have the opening of the session, or `err` has the notices before the rows of a
-- column; a whole run reads no input
abbrev pub IsPlanOpened : Plan → (out out_now err err_now : Option (List ℕ)) → Type 0
IsPlanOpened (Whole run) out out_now err err_now = ⊥
IsPlanOpened (Opened talk) out out_now err err_now = SessionSinkGrowsAtLeast out out_now talk.out
    × SessionSinkGrowsAtLeast err err_now talk.err
IsPlanOpened (Columns work) out out_now err err_now = SessionSinkGrowsAtLeast err err_now work.err

-- the bytes on `err` before anything is written to `out`
abbrev pub first_plan_text_on_err : Plan → List ℕ
first_plan_text_on_err (Whole run) = run.err
first_plan_text_on_err (Opened talk) = talk.err
first_plan_text_on_err (Columns work) = work.err
