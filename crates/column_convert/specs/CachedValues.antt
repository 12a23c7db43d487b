-- The values of FROM and TO once they were queried.
use Rattle.std.specs.Prelude.{◌≡◌, ◌≤◌, ◌^◌, ◌-◌, ℕ, Bool, true, false, not, if◌then◌else◌, List, [], ◌∷◌, codes}
use Rattle.std.specs.Prelude.{IfSome, None, Result, Ok, Err}
use Rattle.std.specs.List.{list_any}
use Rattle.std.specs.declared.alloc.AllocError.{AllocError}
use Rattle.def_entry.specs.declared.key.Kind.TheVariants as kind
use Rattle.def_entry.specs.Keys.{key}
use Rattle.def_entry.specs.EntryReading.{is_entry_semicolon}
use Rattle.def_entry.specs.Tables.{EntryTable, is_entry_present}
use Rattle.def_lines.specs.Blanks.{trimmed_of_blanks}
use Rattle.deck.specs.Tables.{table_of_deck}
use Rattle.expr_tree.specs.Faults.{first_parse_fault}
use Rattle.expr_tree.specs.ParseResult.{parse_of}
use Rattle.expr_tree.specs.Syntax.{Syntax}
use Rattle.expr_tree.specs.Words.{words_in}
use Rattle.quantity.specs.Amount.{Amount}
use Rattle.live_table.specs.TableView.{AreLiveEventsCutOff, IsAfterLiveEvents, IsRightLiveView, LiveView}
use Rattle.live_table.specs.TableView.{live_state_with_steps}
use Rattle.live_table.specs.States.{AsksWords, LiveEvent, live_state_after_all}
use Rattle.reply.specs.declared.options.Options.{Options}
use Rattle.tree_eval.specs.Steps.{negative_value}
use Rattle.column_convert.specs.declared.cell.Cell.{Cell}
use Rattle.column_convert.specs.declared.cached_values.Known.{Known}
use Rattle.column_convert.specs.declared.memory.Memory.{Memory}
use Rattle.column_convert.specs.declared.signed_number.Signed.{Signed}
use Rattle.column_convert.specs.Cells.{cell_of_reply, cell_text_after_minus, is_signed_cell_numeral, number_queries}
use Rattle.column_convert.specs.Cells.{number_reply}
use Rattle.column_convert.specs.Products.{IsCellFactor, IsCellNumeral, cell_product_text, signed_cell_text}
use Rattle.column_convert.specs.CellValues.{AreColumnTextsValued}

-- a text is this number
pub record IsCellNumber (text : List ℕ) (n : Signed) : Type 0 where
  pub signed_numeral : is_signed_cell_numeral text ≡ true
  pub numeral_is : IsCellNumeral (cell_text_after_minus text) n.numeral
  pub spelt : text ≡ signed_cell_text n.negative (cell_text_after_minus text)

-- a quantity, or its negation if `negative`
abbrev pub signed_cell_value : (negative : Bool) → Amount → Amount
signed_cell_value false x = x
signed_cell_value true x = negative_value x

-- a text has no fault, and this is its tree
pub record IsColumnTextParsedAs (text : List ℕ) (e : Syntax) : Type 0 where
  pub no_first_fault : first_parse_fault text ≡ None
  pub tree : parse_of None text ≡ Ok e

-- whether neither text is a function and TO is not a list
abbrev pub are_column_texts_plain : EntryTable → (from to : List ℕ) → Bool
are_column_texts_plain table from to =
    if is_entry_present table (key kind.Func from) then false
    else (if is_entry_present table (key kind.Func to) then false
    else (if is_entry_present table (key kind.List to) then false
    else not (list_any is_entry_semicolon to)))

-- the text of 1 or -1 times FROM has no fault
abbrev pub HasCellProduct : (negative : Bool) → (from : List ℕ) → Type 0
HasCellProduct negative from = first_parse_fault (cell_product_text (signed_cell_text negative (codes "1")) from) ≡ None

abbrev pub HasCellProducts : (from : List ℕ) → Type 0
HasCellProducts from = (negative : Bool) → HasCellProduct negative from

-- FROM, and TO without the blanks at its ends, are these expressions; neither is a function and TO is not a list; and
-- each number times FROM is an expression
pub record AreColumnTextsPlain (table : EntryTable) (from to : List ℕ) (f g : Syntax) : Type 0 where
  pub are_so : are_column_texts_plain table from (trimmed_of_blanks to) ≡ true
  pub factor : (negative : Bool) → IsCellFactor negative from f
  pub to_tree : parse_of None (trimmed_of_blanks to) ≡ Ok g

-- FROM and TO have these values, and querying them changes nothing
pub record AreColumnValuesKnown (shown : LiveView) (from to : List ℕ) (known : Known) : Type 0 where
  pub f : Syntax
  pub g : Syntax
  pub factor : (negative : Bool) → IsCellFactor negative from f
  pub operand_values : AreColumnTextsValued (table_of_deck shown.deck) from to f g known.from_value known.to_value
  pub repeated_events : (steps : ℕ) → IsAfterLiveEvents (AsksWords (words_in f) ∷ AsksWords (words_in g) ∷ []) shown
      shown
      steps steps

-- no values are remembered
abbrev pub IsCellRecallEmpty : Memory → Type 0
IsCellRecallEmpty memory = memory.known ≡ None

-- the remembered values, if there are any, are right
abbrev pub IsCellRecallRight : LiveView → (from to : List ℕ) → Memory → Type 0
IsCellRecallRight shown from to memory = IfSome memory.known (AreColumnValuesKnown shown from to)

-- the queries made so far are the first part of these: making all of them now leads to the same state as making them
-- from the start; they lowered neither count, and the count of newly settled names is at most 2^64 - 1
pub record AreCellQueriesBegun (events : List LiveEvent) (before after : LiveView) (old new : ℕ) : Type 0 where
  pub same_events : live_state_after_all events (live_state_with_steps after new) ≡ live_state_after_all events
      (live_state_with_steps before old)
  pub deck : after.deck ≡ before.deck
  pub table_right : IsRightLiveView after
  pub steps_grow : old ≤ new
  pub reductions_bounded : before.reductions ≤ 2 ^ 64 - 1 → (before.reductions ≤ after.reductions)
      × (after.reductions ≤ 2 ^ 64 - 1)

-- a first part of the queries for the conversion of a number was made, or running out of memory cut them off
abbrev pub AreCellQueriesOfNumberBegun : {A : Type 0} → Signed → (from to : List ℕ) → Result A AllocError → LiveView
    → LiveView → ℕ → ℕ
    → Type 0
AreCellQueriesOfNumberBegun n from to (Ok _) before after old new = (options : Options) (number : List ℕ)
    → IsCellNumber number n
    → AreCellQueriesBegun (number_queries (table_of_deck before.deck) options from to number) before after old new
AreCellQueriesOfNumberBegun n from to (Err _) before after old new = (options : Options) (number : List ℕ)
    → IsCellNumber number n
    → AreLiveEventsCutOff (number_queries (table_of_deck before.deck) options from to number) before after old new

-- the cell of a number, whose queries take no step
abbrev pub IsCellOf : Options → LiveView → (from to number : List ℕ) → Cell → Type 0
IsCellOf options shown from to number cell =
    (cell ≡ cell_of_reply (number_reply (table_of_deck shown.deck) options from to number))
    × ((steps : ℕ) → IsAfterLiveEvents (number_queries (table_of_deck shown.deck) options from to number) shown shown
    steps steps)

-- the cell of a number wherever these values are known, and wherever they are remembered
abbrev pub IsKnownCell : Options → Known → (from to number : List ℕ) → Signed → Cell → Type 0
IsKnownCell options known from to number n cell = (shown : LiveView) → AreColumnValuesKnown shown from to known
    → IsCellNumber number n → IsCellOf options shown from to number cell

abbrev pub IsRememberedCell : Options → Memory → (from to number : List ℕ) → Signed → Cell → Type 0
IsRememberedCell options memory from to number n cell = (shown : LiveView)
    → IsCellRecallRight shown from to memory → IsCellNumber number n → IsCellOf options shown from to number cell
