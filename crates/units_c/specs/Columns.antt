-- The answers to column conversions.
use Rattle.std.specs.Prelude.{ℕ, List}
use Rattle.column_convert.specs.Inputs.{column_input_of_text}
use Rattle.column_convert.specs.Rows.{rows}
use Rattle.def_entry.specs.Tables.{EntryTable}
use Rattle.edited_table.specs.Answers.{c_rows_answer}
use Rattle.edited_table.specs.declared.answer.Answer.{Answer}
use Rattle.reply.specs.declared.options.Options.{Options}
use Rattle.units_c.specs.Options.{is_c_flag_set}
use Rattle.units_c.specs.declared.column.UnitsColumn.{UnitsColumn}

-- the answer to a column conversion: the rows that the program writes
abbrev pub c_column_answer : EntryTable → Options → UnitsColumn → (text : List ℕ) → Answer
c_column_answer table options c text =
    c_rows_answer (rows table options c.from.now c.to.now (column_input_of_text text c.number (is_c_flag_set c.header)))
