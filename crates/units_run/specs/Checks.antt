-- A check report as it is written.
use Rattle.std.specs.Prelude.{◌≡◌, ◌++◌, ℕ, List, true, false}
use Rattle.std.specs.declared.option.Option.{Option}
use Rattle.deck.specs.Tables.{table_of_deck}
use Rattle.def_lines.specs.Words.{is_empty}
use Rattle.reply.specs.Options.{reply_style}
use Rattle.session.specs.Queries.{names_settled_in_session}
use Rattle.survey.specs.Checks.{check_queries, check_report}
use Rattle.units_io.specs.Bytes.{sink_bytes_append, SinkGrowsByPrefix}
use Rattle.units_run.specs.declared.check_plan.CheckPlan.{CheckPlan}
use Rattle.units_run.specs.declared.status.Status.{Status}
use Rattle.units_run.specs.declared.status.Status.TheVariants.{Done, Refused, WriteFault, NoMemory}

-- the bytes of a planned report, and the number of names that it newly settles
abbrev pub planned_check_report : CheckPlan → List ℕ
planned_check_report plan = plan.notices.items ++ check_report (table_of_deck plan.table.deck)
    (reply_style plan.options)

abbrev pub planned_check_steps : CheckPlan → ℕ
planned_check_steps plan = names_settled_in_session (check_queries (table_of_deck plan.table.deck)) plan.table

-- the bytes of a report on a sink, by the ending: all of them, with the status `Refused` if there are any; or a front
-- of them
abbrev pub IsRunReportWritten : List ℕ → Status → (before after : Option (List ℕ)) → Type 0
IsRunReportWritten bytes Done before after = (is_empty bytes ≡ true) × (after ≡ sink_bytes_append before bytes)
IsRunReportWritten bytes Refused before after = (is_empty bytes ≡ false) × (after ≡ sink_bytes_append before bytes)
IsRunReportWritten bytes WriteFault before after = SinkGrowsByPrefix before after bytes
IsRunReportWritten bytes NoMemory before after = SinkGrowsByPrefix before after bytes
IsRunReportWritten bytes ending before after = ⊥
