-- The value of a number times an expression, from the value of the expression.
use Rattle.std.specs.Prelude.{◌≡◌, ◌≤◌, ◌-◌, ◌^◌, ℕ, Bool, true, false, List, [], ◌∷◌, map, None, Ok}
use Rattle.std.specs.List.{list_any}
use Rattle.units_io.specs.Outcomes.{◌>>=◌}
use Rattle.frac128.specs.Decimals.{NumeralDecimal, fraction_of_decimal}
use Rattle.quantity.specs.Amount.{Amount}
use Rattle.def_lines.specs.Blanks.{trimmed_of_blanks}
use Rattle.expr_tree.specs.declared.word_list.WordUse.{WordUse}
use Rattle.expr_tree.specs.ParseResult.{parse_of}
use Rattle.expr_tree.specs.Syntax.{Syntax}
use Rattle.expr_tree.specs.Words.{words_in}
use Rattle.def_entry.specs.declared.key.Kind.TheVariants as kind
use Rattle.def_entry.specs.Keys.{key}
use Rattle.def_entry.specs.EntryReading.{is_entry_semicolon}
use Rattle.def_entry.specs.Tables.{EntryTable, entry_at, is_entry_present}
use Rattle.tree_eval.specs.declared.step.Step.TheVariants.{Multiply}
use Rattle.tree_eval.specs.Steps.{ValueOrFault, operand_step_value, negative_value, value_of_number}
use Rattle.tree_eval.specs.Value.{value}
use Rattle.table_names.specs.Faults.{name_fault}
use Rattle.table_names.specs.Meanings.{expansion}
use Rattle.live_table.specs.Answers.{live_answer_of_value, live_table_answer}
use Rattle.live_table.specs.States.{AsksWords}
use Rattle.live_table.specs.TableView.{IsAfterLiveEvents, LiveView}
use Rattle.reply.specs.declared.options.Options.{Options}
use Rattle.reply.specs.Conversions.{conversion_between, converted_to}
use Rattle.reply.specs.Inquiries.{Inquiry, inquiry_after, inquiry_answer}
use Rattle.reply.specs.Options.{reply_form}
use Rattle.reply.specs.Replies.{conversion_inquiry, conversion_result_as_reply}
use Rattle.reply.specs.Targets.{conversion_target}
use Rattle.column_convert.specs.Cells.{cell_options, number_queries, number_reply}
use Rattle.column_convert.specs.Products.{IsCellFactor, IsCellNumeral, cell_product_text, signed_cell_text}

-- the value of a numeral, perhaps with a minus sign before it
abbrev pub cell_number_value : (negative : Bool) → NumeralDecimal → ValueOrFault
cell_number_value false x = value_of_number (fraction_of_decimal x)
cell_number_value true x = do
  v ← value_of_number (fraction_of_decimal x)
  Ok (negative_value v)

-- the value of the product; the fault of the number comes first, then that of the expression, then that of their
-- product
abbrev pub value_of_cell_product : (negative : Bool) → NumeralDecimal → ValueOrFault → ValueOrFault
value_of_cell_product negative x value_or_fault = do
  v ← cell_number_value negative x
  w ← value_or_fault
  operand_step_value Multiply v w

-- the value of the product by query: the names of the expression are queried, and their fault comes first
abbrev pub cell_product_inquiry : EntryTable → (negative : Bool) → NumeralDecimal → Syntax → Inquiry Amount
cell_product_inquiry table negative x from = record {
  events = AsksWords (words_in from) ∷ [];
  answer = inquiry_answer (live_answer_of_value (name_fault table (words_in from))
      (value_of_cell_product negative x (value (expansion table from) None)));
}

-- law: the reply to the conversion of a number times an expression follows from the value of the expression
abbrev pub CellValueLaw : Type 0
CellValueLaw = (table : EntryTable) (options : Options) (negative : Bool) (text : List ℕ) (x : NumeralDecimal)
    (from : List ℕ)
    (f : Syntax) (to : List ℕ) → IsCellNumeral text x → IsCellFactor negative from f
    → conversion_inquiry table options (cell_product_text (signed_cell_text negative text) from) to
    ≡ inquiry_after (cell_product_inquiry table negative x f).events (cell_product_inquiry table negative x f).answer
    (converted_to table options (trimmed_of_blanks to) (conversion_target table (trimmed_of_blanks to)))

-- an expression and a unit have these values; FROM is not a function, and TO is neither a function nor a list
pub record AreColumnTextsValued (table : EntryTable) (from to : List ℕ) (f g : Syntax) (x y : Amount) : Type 0 where
  pub from_is_no_function : is_entry_present table (key kind.Func from) ≡ false
  pub from_named : name_fault table (words_in f) ≡ None
  pub from_has_value : value (expansion table f) None ≡ Ok x
  pub to_plain : is_entry_present table (key kind.Func (trimmed_of_blanks to)) ≡ false
  pub to_single : entry_at table (key kind.List (trimmed_of_blanks to)) ≡ None
  pub to_uncut : list_any is_entry_semicolon (trimmed_of_blanks to) ≡ false
  pub to_tree : parse_of None (trimmed_of_blanks to) ≡ Ok g
  pub to_value : live_table_answer table g ≡ Ok y

-- law: the reply to a number says how often the unit goes into the product of the number and the value of the
-- expression, and the words of both are queried
abbrev pub CellReplyLaw : Type 0
CellReplyLaw = (table : EntryTable) (options : Options) (negative : Bool) (text : List ℕ) (d : NumeralDecimal)
    (from to : List ℕ)
    (f g : Syntax) (x y p : Amount) → IsCellNumeral text d → IsCellFactor negative from f
    → AreColumnTextsValued table from to f g x y
    → value_of_cell_product negative d (Ok x) ≡ Ok p
    → (number_reply table options from to (signed_cell_text negative text)
    ≡ conversion_result_as_reply (reply_form (cell_options options))
    (trimmed_of_blanks (cell_product_text (signed_cell_text negative text) from))
    (trimmed_of_blanks to) (conversion_between true p y))
    × (number_queries table options from to (signed_cell_text negative text)
    ≡ AsksWords (words_in f) ∷ AsksWords (words_in g) ∷ [])

-- law: if the words of several texts were queried, one text after another, querying them again takes no step
abbrev pub CellQueriesAgainLaw : Type 0
CellQueriesAgainLaw = (texts : List (List WordUse)) (a b : LiveView) (n m k : ℕ) → b.reductions ≤ 2 ^ 64 - 1
    → IsAfterLiveEvents (map AsksWords texts) a b n m → IsAfterLiveEvents (map AsksWords texts) b b k k
