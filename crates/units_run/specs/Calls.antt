-- A run: one function of words, variables, files and input.
use Rattle.std.specs.Prelude.{ℕ, List, if◌then◌else◌}
use Rattle.deck.specs.Tables.{table_of_deck}
use Rattle.column_convert.specs.Inputs.{column_input_of_text}
use Rattle.column_convert.specs.Blocks.{is_error_row, text_of_rows}
use Rattle.column_convert.specs.declared.column_row.ColumnRow.{ColumnRow}
use Rattle.column_convert.specs.Rows.{queries, rows}
use Rattle.units_io.specs.FileMap.{FileMap}
use Rattle.units_io.specs.NamedValues.{NamedTexts}
use Rattle.session.specs.HeardLines.{heard_lines}
use Rattle.session.specs.Input.{input_lines}
use Rattle.session.specs.Queries.{fresh_session_table, names_settled_in_session}
use Rattle.session.specs.Talks.{talk_over_lines}
use Rattle.session.specs.WrittenOutput.{SessionCourse, SessionOutput, talk_output}
use Rattle.units_run.specs.Plans.{Plan, Whole, Opened, Columns, PlannedColumnWork}
use Rattle.units_run.specs.Work.{plan_of}
use Rattle.units_run.specs.declared.status.Status.{Status}
use Rattle.units_run.specs.declared.status.Status.TheVariants.{Done, Refused}

-- the bytes for each sink, the number of newly settled names, the files at the end, and the status
pub record Run : Type 0 where
  pub output : SessionOutput
  pub status : Status

-- the rows of a column over an input, and the queries that are made for them
abbrev pub run_column_rows : PlannedColumnWork → (input : List ℕ) → List ColumnRow
run_column_rows work input = rows (table_of_deck work.deck) work.options work.from work.to
    (column_input_of_text input work.column work.header)

abbrev pub run_column_steps : PlannedColumnWork → (input : List ℕ) → ℕ
run_column_steps work input =
    names_settled_in_session
    (queries (table_of_deck work.deck) work.options work.from work.to
    (column_input_of_text input work.column work.header))
    (fresh_session_table work.deck)

-- the run of a column over its whole input; a refused row gives the status `Refused`
abbrev pub column_run : PlannedColumnWork → FileMap → (input : List ℕ) → Run
column_run work files input = record {
  output = record {
    out = text_of_rows (run_column_rows work input);
    err = work.err;
    steps = run_column_steps work input;
    files = files;
  };
  status = if is_error_row (run_column_rows work input) then Refused else Done;
}

-- the run of a plan after these lines of its input are answered
abbrev pub run_over : Plan → FileMap → (input : List ℕ) → (lines : List (List ℕ)) → Run
run_over (Whole run) files input lines = record {
  output = record { out = run.out; err = run.err; steps = run.steps; files = files };
  status = run.status;
}
run_over (Opened talk) files input lines = record { output = talk_output (talk_over_lines talk lines); status = Done }
run_over (Columns work) files input lines = column_run work files input

-- everything that a run depends on
pub record RunArguments : Type 0 where
  pub words : List (List ℕ)
  pub vars : NamedTexts
  pub files : FileMap
  pub input : List ℕ

abbrev pub plan_for : RunArguments → Plan
plan_for call = plan_of call.words call.vars call.files

-- the run so far, after these lines of its input are answered
abbrev pub run_so_far : RunArguments → (lines : List (List ℕ)) → Run
run_so_far call lines = run_over (plan_for call) call.files call.input lines

-- the run of these words and variables over these files and this input
abbrev pub run_of : RunArguments → Run
run_of call = run_so_far call (heard_lines (input_lines call.input))

-- the course of a call
abbrev pub run_course : RunArguments → SessionCourse
run_course call = record { output_for = λ lines. (run_so_far call lines).output; input = call.input }
