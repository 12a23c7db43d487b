-- The reply to a number times an expression.
use Rattle.std.proofs.Common.{◌≡◌, ℕ, Bool, true, List, [], ◌∷◌, ◌++◌, None, Ok, sym, ap, ◌∙◌, append_assoc, reverse}
use Rattle.std.proofs.lemmas.List.{reverse-append, reverse-reverse}
use Rattle.def_lines.specs.Blanks.{after_blanks, before_blanks, trimmed_of_blanks}
use Rattle.frac128.specs.Decimals.{NumeralDecimal, numeral_reading}
use Rattle.frac128.specs.Numerals.{is_numeral}
use Rattle.quantity.specs.Amount.{Amount}
use Rattle.expr_tree.specs.Faults.{first_parse_fault}
use Rattle.expr_tree.specs.ParseResult.{parse_of}
use Rattle.expr_tree.specs.Syntax.{Syntax}
use Rattle.def_entry.specs.Tables.{EntryTable}
use Rattle.reply.specs.declared.options.Options.{Options}
use Rattle.reply.specs.Conversions.{converted_to}
use Rattle.reply.specs.Inquiries.{Inquiry, inquiry_after, value_of_text}
use Rattle.reply.specs.Replies.{conversion_inquiry}
use Rattle.reply.specs.Targets.{conversion_target}
use Rattle.column_convert.specs.Products.{cell_product_text, signed_cell_text}
use Rattle.column_convert.specs.CellValues.{cell_product_inquiry}
use Rattle.column_convert.proofs.CellValues.{cell_product_text_value}

-- ---- there are no blanks at the ends
cell_close_is_not_trimmed : (xs : List ℕ) → before_blanks (xs ++ 41 ∷ []) ≡ xs ++ 41 ∷ []
cell_close_is_not_trimmed xs =
    ap (λ ys. reverse (after_blanks ys)) (reverse-append xs (41 ∷ []))
    ∙ (ap reverse (sym (reverse-append xs (41 ∷ []))) ∙ reverse-reverse (xs ++ 41 ∷ []))

cell_product_ends_with_close : (number from : List ℕ)
    → cell_product_text number from ≡ (40 ∷ (number ++ 41 ∷ 32 ∷ 40 ∷ from)) ++ 41 ∷ []
cell_product_ends_with_close number from =
    ap (λ xs. 40 ∷ xs) (sym (append_assoc number (41 ∷ 32 ∷ 40 ∷ from) (41 ∷ [])))

pub cell_product_is_trimmed : (number from : List ℕ)
    → trimmed_of_blanks (cell_product_text number from) ≡ cell_product_text number from
cell_product_is_trimmed number from =
    ap after_blanks
    (ap before_blanks (cell_product_ends_with_close number from)
    ∙ (cell_close_is_not_trimmed (40 ∷ (number ++ 41 ∷ 32 ∷ 40 ∷ from))
    ∙ sym (cell_product_ends_with_close number from)))

-- ---- the result of a conversion
module _ (table : EntryTable) (options : Options) (negative : Bool) (x y : NumeralDecimal) (text other from to : List ℕ)
    (f : Syntax)
    (is : is_numeral text ≡ true) (value : numeral_reading text ≡ Ok x) (other_is : is_numeral other ≡ true)
    (other_value : numeral_reading other ≡ Ok y) (tree : parse_of None from ≡ Ok f)
    (free : first_parse_fault (cell_product_text (signed_cell_text negative other) from) ≡ None) where
  pub product_converting : conversion_inquiry table options (cell_product_text (signed_cell_text negative text) from) to
      ≡ inquiry_after (cell_product_inquiry table negative x f).events (cell_product_inquiry table negative x f).answer
      (converted_to table options (trimmed_of_blanks to) (conversion_target table (trimmed_of_blanks to)))
  product_converting =
      ap (λ (t : List ℕ). inquiry_after (value_of_text table t).events (value_of_text table t).answer
      (converted_to table options (trimmed_of_blanks to) (conversion_target table (trimmed_of_blanks to))))
      (cell_product_is_trimmed (signed_cell_text negative text) from)
      ∙ ap (λ (q : Inquiry Amount). inquiry_after q.events q.answer
      (converted_to table options (trimmed_of_blanks to) (conversion_target table (trimmed_of_blanks to))))
      (cell_product_text_value table negative x y text other from f is value other_is other_value tree free)
