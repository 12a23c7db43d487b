-- The reply to a number, from the values of FROM and TO.
use Rattle.std.proofs.Common.{◌≡◌, ◌∙◌, ◌++◌, codes, ℕ, Bool, true, false, List, [], ◌∷◌, None, Ok, ap, cond}
use Rattle.std.specs.Prelude.{Result}
use Rattle.quantity.specs.Amount.{Amount}
use Rattle.def_lines.specs.Blanks.{trimmed_of_blanks}
use Rattle.def_entry.specs.declared.key.Kind.TheVariants as kind
use Rattle.def_entry.specs.Keys.{key}
use Rattle.def_entry.specs.EntryReading.{is_entry_semicolon}
use Rattle.def_entry.specs.Tables.{EntryTable, entry_at, is_entry_present}
use Rattle.std.specs.List.{list_any}
use Rattle.std.proofs.lemmas.Bool.{cond-false}
use Rattle.expr_tree.specs.ParseResult.{parse_of}
use Rattle.expr_tree.specs.Syntax.{Syntax}
use Rattle.expr_tree.specs.Words.{words_in}
use Rattle.live_table.specs.Answers.{live_answer_of_value, live_table_answer}
use Rattle.live_table.specs.States.{AsksWords}
use Rattle.table_names.specs.Meanings.{expansion}
use Rattle.tree_eval.specs.Steps.{ValueOrFault}
use Rattle.tree_eval.specs.Value.{value}
use Rattle.reply.specs.declared.fault.ReplyFault.{ReplyFault}
use Rattle.reply.specs.declared.options.Options.{Options}
use Rattle.reply.specs.Conversions.{conversion_between, conversion_to_unit, converted_to}
use Rattle.reply.specs.Inquiries.{Inquiry, inquiry_after, inquiry_answer, inquiry_without_queries, value_of_text}
use Rattle.reply.specs.Options.{reply_form}
use Rattle.reply.specs.Replies.{conversion_inquiry, conversion_result_as_reply}
use Rattle.reply.specs.Targets.{conversion_target, conversion_target_parts_or_unit}
use Rattle.column_convert.specs.Cells.{cell_conversion_text, cell_options}
use Rattle.column_convert.specs.Products.{cell_product_text, signed_cell_text}
use Rattle.column_convert.specs.CellValues.{CellReplyLaw, cell_product_inquiry, value_of_cell_product}
use Rattle.column_convert.proofs.Replies.{product_converting}
use Rattle.column_convert.proofs.CellValues.{column_text_tree_value}

-- a text with a value, and the queries and answer that follow from it
column_target_has_value : {B : Type 0} (table : EntryTable) (to : List ℕ) (g : Syntax) (y : Amount)
    (next : Amount → Result B ReplyFault)
    → parse_of None to ≡ Ok g → live_table_answer table g ≡ Ok y
    → inquiry_after (value_of_text table to).events (value_of_text table to).answer
    (λ z. inquiry_without_queries (next z))
    ≡ record { events = AsksWords (words_in g) ∷ []; answer = next y }
column_target_has_value table to g y next tree is =
    ap (λ (q : Inquiry Amount). inquiry_after q.events q.answer (λ z. inquiry_without_queries (next z)))
    (column_text_tree_value table to g tree)
    ∙ ap (λ r. inquiry_after (AsksWords (words_in g) ∷ []) (inquiry_answer r) (λ z. inquiry_without_queries (next z)))
    is

second_cell_branch : {T U : Type 0} (k : T → U) (b : Bool) (x y : T) → b ≡ false → k (cond b x y) ≡ k y
second_cell_branch k b x y is = ap k (cond-false b x y is)

-- a target that is neither a function nor a list
module _ (table : EntryTable) (options : Options) (to : List ℕ) where
  pub unit_target : is_entry_present table (key kind.Func to) ≡ false → entry_at table (key kind.List to) ≡ None
      → list_any is_entry_semicolon to ≡ false
      → converted_to table options to (conversion_target table to) ≡ conversion_to_unit table options
      to
  unit_target plain single uncut =
      let one : conversion_target table to ≡ conversion_target_parts_or_unit (entry_at table (key kind.List to)) to =
      cond-false (is_entry_present table (key kind.Func to)) _ _ plain in
      let two : conversion_target_parts_or_unit (entry_at table (key kind.List to)) to ≡ conversion_target_parts_or_unit
      None to =
      ap (λ o. conversion_target_parts_or_unit o to) single in
      ap (converted_to table options to) one ∙ ap (converted_to table options to) two
      ∙ second_cell_branch (converted_to table options to) (list_any is_entry_semicolon to) _ _ uncut

-- the text for a number is the number times the expression
pub cell_conversion_is_of_product : (table : EntryTable) (negative : Bool) (text from : List ℕ)
    → is_entry_present table (key kind.Func from) ≡ false
    → cell_conversion_text table from (signed_cell_text negative text) ≡ cell_product_text
    (signed_cell_text negative text) from
cell_conversion_is_of_product table negative text from plain =
    ap (λ (b : Bool). cond b (from ++ (codes "(" ++ (signed_cell_text negative text ++ codes ")")))
    (cell_product_text (signed_cell_text negative text) from)) plain

pub cell_reply_law : CellReplyLaw
cell_reply_law table options negative text d from to f g x y p is factor values product = (
  ap (λ (t : List ℕ). conversion_result_as_reply (reply_form (cell_options options)) (trimmed_of_blanks t)
      (trimmed_of_blanks to)
      (conversion_inquiry table (cell_options options) t to).answer) asked
      ∙ ap (λ q. conversion_result_as_reply (reply_form (cell_options options))
      (trimmed_of_blanks (cell_product_text (signed_cell_text negative text) from)) (trimmed_of_blanks to) q.answer)
      all,
  ap (λ (t : List ℕ). (conversion_inquiry table (cell_options options) t to).events) asked
      ∙ ap (λ q. q.events) all,
)
  where
    asked : cell_conversion_text table from (signed_cell_text negative text) ≡ cell_product_text
        (signed_cell_text negative text) from
    asked = cell_conversion_is_of_product table negative text from values.from_is_no_function

    -- the product has a value
    first : (cell_product_inquiry table negative d f).answer ≡ Ok p
    first =
        ap (λ o. inquiry_answer
        (live_answer_of_value o (value_of_cell_product negative d (value (expansion table f) None)))) values.from_named
        ∙ ap (λ (w : ValueOrFault). inquiry_answer (live_answer_of_value None (value_of_cell_product negative d w)))
        values.from_has_value
        ∙ ap (λ (w : ValueOrFault). inquiry_answer (live_answer_of_value None w)) product

    all : conversion_inquiry table (cell_options options) (cell_product_text (signed_cell_text negative text) from) to
        ≡ record { events = AsksWords (words_in f) ∷ AsksWords (words_in g) ∷ []; answer = conversion_between true p y }
    all =
        product_converting table (cell_options options) negative d factor.decimal text factor.number from to f is.spelt
        is.reading_is factor.number_is_numeral.spelt factor.number_is_numeral.reading_is factor.tree
        factor.no_product_fault
        ∙ ap (λ r. inquiry_after (AsksWords (words_in f) ∷ []) r
        (converted_to table (cell_options options) (trimmed_of_blanks to)
        (conversion_target table (trimmed_of_blanks to)))) first
        ∙ ap (λ next. inquiry_after (AsksWords (words_in f) ∷ []) (Ok p) next)
        (unit_target table (cell_options options) (trimmed_of_blanks to) values.to_plain values.to_single
        values.to_uncut)
        ∙ ap (λ q. inquiry_after (AsksWords (words_in f) ∷ []) (Ok p) (λ (z : Amount). q))
        (column_target_has_value table (trimmed_of_blanks to) g y (conversion_between true p) values.to_tree
        values.to_value)
