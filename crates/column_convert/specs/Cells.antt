-- Converting fields to cells.
use Rattle.std.specs.Prelude.{◌++◌, ℕ, Bool, true, false, List, [], ◌∷◌, codes, Option, Some, None, if◌then◌else◌}
use Rattle.def_entry.specs.Cuts.{cut_at}
use Rattle.def_entry.specs.declared.key.Kind.TheVariants as kind
use Rattle.def_entry.specs.Keys.{key}
use Rattle.def_entry.specs.Tables.{EntryTable, is_entry_present}
use Rattle.def_lines.specs.Blanks.{trimmed_of_blanks}
use Rattle.frac128.specs.Numerals.{is_numeral, is_numeral_minus}
use Rattle.live_table.specs.States.{LiveEvent}
use Rattle.reply.specs.declared.options.Options.{Options}
use Rattle.reply.specs.declared.reply.Reply.{Reply}
use Rattle.reply.specs.Replies.{conversion_queries, conversion_reply}
use Rattle.column_convert.specs.declared.cell.Cell.{Cell}
use Rattle.column_convert.specs.Products.{cell_product_text}

-- the text after a minus sign at its front, or the whole text if it has none there
abbrev pub cell_text_after_minus : List ℕ → List ℕ
cell_text_after_minus [] = []
cell_text_after_minus (b ∷ bytes) = if is_numeral_minus b then bytes else b ∷ bytes

-- whether a text is a numeral, perhaps with a minus sign before it
abbrev pub is_signed_cell_numeral : List ℕ → Bool
is_signed_cell_numeral text = is_numeral (cell_text_after_minus text)

-- the text to convert for a number: the call of the function FROM with the number, if FROM names a function, or else
-- the number times FROM
abbrev pub cell_conversion_text : EntryTable → (from number : List ℕ) → List ℕ
cell_conversion_text table from number =
    if is_entry_present table (key kind.Func from)
    then from ++ (codes "(" ++ (number ++ codes ")"))
    else cell_product_text number from

-- the options of the reply in a cell: the options for numbers are those of the run
abbrev pub cell_options : Options → Options
cell_options options = record options {
  strict = true;
  one_line = true;
  compact = true;
  quiet = true;
  verbose = false;
}

-- the part before a cut, or the whole text if there is no cut
abbrev pub cell_line_before_cut : Option (List ℕ × List ℕ) → List ℕ → List ℕ
cell_line_before_cut (Some cut) text = cut.0
cell_line_before_cut None text = text

abbrev pub first_cell_line : List ℕ → List ℕ
first_cell_line text = cell_line_before_cut (cut_at 10 text) text

-- the text before a refused reply, which is empty for other replies
abbrev pub cell_error_front : (refused : Bool) → List ℕ
cell_error_front true = codes "error: "
cell_error_front false = []

-- the cell with the first line of a reply
abbrev pub cell_of_reply : Reply → Cell
cell_of_reply reply = record {
  text = cell_error_front reply.refused ++ first_cell_line reply.text;
  refused =
      reply.refused;
}

abbrev pub cell_not_a_number : Cell
cell_not_a_number = record { text = codes "error: not a number"; refused = true }

module _ (table : EntryTable) (options : Options) (from to : List ℕ) where
  -- the reply to a number, and the queries that are made for it
  abbrev pub number_reply : (number : List ℕ) → Reply
  number_reply number = conversion_reply table (cell_options options) (cell_conversion_text table from number) to

  abbrev pub number_queries : (number : List ℕ) → List LiveEvent
  number_queries number = conversion_queries table (cell_options options) (cell_conversion_text table from number) to

module _ (table : EntryTable) (options : Options) (from to field : List ℕ) where
  -- the cell of a field, and the queries that are made for it: blanks at the ends of the field and of FROM are dropped
  abbrev pub cell : Cell
  cell =
      if is_signed_cell_numeral (trimmed_of_blanks field)
      then cell_of_reply (number_reply table options (trimmed_of_blanks from) to (trimmed_of_blanks field))
      else cell_not_a_number

  abbrev pub cell_queries : List LiveEvent
  cell_queries =
      if is_signed_cell_numeral (trimmed_of_blanks field)
      then number_queries table options (trimmed_of_blanks from) to (trimmed_of_blanks field)
      else []
