-- The answers to queries: a status, and a text for the caller.
use Rattle.std.specs.Prelude.{ℕ, List, Bool, true, false, Option, Some, None, Result, Ok, Err, if◌then◌else◌}
use Rattle.column_convert.specs.Blocks.{is_error_row, text_of_rows}
use Rattle.column_convert.specs.declared.column_row.ColumnRow.{ColumnRow}
use Rattle.def_entry.specs.Tables.{EntryTable}
use Rattle.def_lines.specs.Blanks.{trimmed_of_blanks}
use Rattle.frac128.specs.Fraction.{Fraction}
use Rattle.quantity.specs.Amount.{Amount}
use Rattle.quantity.specs.Text.{powers_text}
use Rattle.reply.specs.Faults.{fault_text}
use Rattle.reply.specs.Inquiries.{value_of_text}
use Rattle.reply.specs.Options.{reply_style}
use Rattle.reply.specs.Replies.{conversion_inquiry, conversion_reply}
use Rattle.reply.specs.declared.fault.ReplyFault.{ReplyFault}
use Rattle.reply.specs.declared.options.Options.{Options}
use Rattle.reply.specs.declared.reply.Reply.{Reply}
use Rattle.edited_table.specs.Faults.{fault_status, c_value_status}
use Rattle.edited_table.specs.Words.{status_of_text}
use Rattle.edited_table.specs.declared.answer.Answer.{Answer}
use Rattle.edited_table.specs.declared.status.Status.{Status}
use Rattle.edited_table.specs.declared.status.Status.TheVariants as status

-- the answer for a reply: its status is determined by its text
abbrev pub c_reply_answer : Reply → Answer
c_reply_answer reply =
    record { status = if reply.refused then status_of_text reply.text else status.Done; text = reply.text }

-- the status of a conversion: that of its fault, or, if it has none, the status that the text of the reply determines
-- (`Done` or a conformability error)
abbrev pub conversion_status : {C : Type 0} → Result C ReplyFault → Reply → Status
conversion_status (Ok c) reply = (c_reply_answer reply).status
conversion_status (Err fault) reply = fault_status fault

-- the answer to a conversion: the reply of the program and its status
abbrev pub c_conversion_answer : EntryTable → Options → (from to : List ℕ) → Answer
c_conversion_answer table options from to =
    let reply = conversion_reply table options from to in
    record { status = conversion_status (conversion_inquiry table options from to).answer reply; text = reply.text }

-- the dimension of a quantity, as in its text
abbrev pub c_dimension_text : Amount → List ℕ
c_dimension_text x = trimmed_of_blanks (powers_text x.exponents)

-- the value of an expression
abbrev pub c_value_of : EntryTable → (expression : List ℕ) → Result Amount ReplyFault
c_value_of table expression = (value_of_text table (trimmed_of_blanks expression)).answer

-- the dimension of a value, or the text of the fault
abbrev pub c_value_text : Options → Result Amount ReplyFault → List ℕ
c_value_text options (Ok x) = c_dimension_text x
c_value_text options (Err fault) = fault_text (reply_style options) fault

abbrev pub c_value_answer : Options → Result Amount ReplyFault → Answer
c_value_answer options value_or_fault =
    record { status = c_value_status value_or_fault; text = c_value_text options value_or_fault }

-- the number of a value, if there is one
abbrev pub c_value_number : Result Amount ReplyFault → Option Fraction
c_value_number (Ok x) = Some x.value
c_value_number (Err fault) = None

-- the options for values: numbers in the texts of faults are exact
abbrev pub c_exact_options : Options
c_exact_options = record {
  digits = 8;
  exact = true;
  strict = true;
  one_line = true;
  compact = true;
  quiet = true;
  round = false;
  verbose = false;
}

-- the status of rows, given whether a cell is an error
abbrev pub rows_status : (refused : Bool) → Status
rows_status refused = if refused then status.CellError else status.Done

-- the concatenated rows, with their status
abbrev pub c_rows_answer : List ColumnRow → Answer
c_rows_answer rows = record { status = rows_status (is_error_row rows); text = text_of_rows rows }
