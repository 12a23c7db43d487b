-- The value of a number times an expression.
use Rattle.std.proofs.Common.{◌≡◌, ℕ, Bool, true, false, List, [], ◌∷◌, None, Ok, Err, refl, ap, ◌∙◌}
use Rattle.std.proofs.lemmas.List.{append-nil}
use Rattle.units_io.specs.Outcomes.{◌>>=◌}
use Rattle.frac128.specs.Decimals.{NumeralDecimal, numeral_reading}
use Rattle.frac128.specs.Numerals.{is_numeral}
use Rattle.quantity.specs.Amount.{Amount}
use Rattle.expr_tree.specs.declared.word_list.WordUse.{WordUse}
use Rattle.expr_tree.specs.Faults.{first_parse_fault}
use Rattle.expr_tree.specs.ParseResult.{parse_of}
use Rattle.expr_tree.specs.Syntax.{Syntax}
use Rattle.expr_tree.specs.Words.{words_in}
use Rattle.def_entry.specs.Tables.{EntryTable}
use Rattle.tree_eval.specs.declared.step.Step.TheVariants.{Multiply}
use Rattle.tree_eval.specs.Steps.{ValueOrFault, operand_step_value}
use Rattle.tree_eval.specs.Value.{value}
use Rattle.table_names.specs.Faults.{name_fault}
use Rattle.table_names.specs.Meanings.{expansion}
use Rattle.live_table.specs.Answers.{live_answer_of_value}
use Rattle.live_table.specs.States.{AsksWords}
use Rattle.reply.specs.Inquiries.{Inquiry, inquiry_after, inquiry_answer, value_of_text, tree_value}
use Rattle.reply.specs.Trees.{inquiry_parse_result}
use Rattle.column_convert.specs.Products.{cell_product_text, cell_product_tree, signed_cell_text}
use Rattle.column_convert.specs.CellValues.{cell_number_value, cell_product_inquiry, value_of_cell_product}
use Rattle.column_convert.proofs.Products.{cell_product_is_parsed}

cell_product_words : (negative : Bool) (x : NumeralDecimal) (f : Syntax)
    → words_in (cell_product_tree negative x f) ≡ words_in f
cell_product_words false x f = append-nil (words_in f)
cell_product_words true x f = append-nil (words_in f)

cell_value_then_ok : (r : ValueOrFault) → (r >>= (λ (q : Amount). Ok q)) ≡ r
cell_value_then_ok (Ok q) = refl
cell_value_then_ok (Err e) = refl

-- the steps to the product, beginning with the number
value_of_cell_product_steps : (v : ValueOrFault) (w : ValueOrFault)
    → (v >>= (λ (a : Amount). w >>= (λ (b : Amount). operand_step_value Multiply a b >>= (λ (q : Amount). Ok q))))
    ≡ (v >>= (λ (a : Amount). w >>= (λ (b : Amount). operand_step_value Multiply a b)))
value_of_cell_product_steps (Err e) w = refl
value_of_cell_product_steps (Ok a) (Err e) = refl
value_of_cell_product_steps (Ok a) (Ok b) = cell_value_then_ok (operand_step_value Multiply a b)

cell_product_value : (table : EntryTable) (negative : Bool) (x : NumeralDecimal) (f : Syntax)
    → value (expansion table (cell_product_tree negative x f)) None
    ≡ value_of_cell_product negative x (value (expansion table f) None)
cell_product_value table false x f = value_of_cell_product_steps (cell_number_value false x)
    (value (expansion table f) None)
cell_product_value table true x f = value_of_cell_product_steps (cell_number_value true x)
    (value (expansion table f) None)

cell_inquiry_by_words : EntryTable → List WordUse → ValueOrFault → Inquiry Amount
cell_inquiry_by_words table words w =
    record { events = AsksWords words ∷ []; answer = inquiry_answer (live_answer_of_value (name_fault table words) w) }

cell_product_tree_value : (table : EntryTable) (negative : Bool) (x : NumeralDecimal) (f : Syntax)
    → tree_value table (cell_product_tree negative x f) ≡ cell_product_inquiry table negative x f
unfolding cell_inquiry_by_words
cell_product_tree_value table negative x f = λ i. cell_inquiry_by_words table (cell_product_words negative x f i)
    (cell_product_value table negative x f i)

-- a text that is parsed as a tree has the value of the tree
pub column_text_tree_value : (table : EntryTable) (text : List ℕ) (e : Syntax) → parse_of None text ≡ Ok e
    → value_of_text table text ≡ tree_value table e
column_text_tree_value table text e is =
    ap (λ r. inquiry_after [] (inquiry_parse_result r) (tree_value table)) is

pub cell_product_text_value : (table : EntryTable) (negative : Bool) (x y : NumeralDecimal) (text other from : List ℕ)
    (f : Syntax)
    → is_numeral text ≡ true → numeral_reading text ≡ Ok x → is_numeral other ≡ true → numeral_reading other ≡ Ok y
    → parse_of None from ≡ Ok f → first_parse_fault (cell_product_text (signed_cell_text negative other) from) ≡ None
    → value_of_text table (cell_product_text (signed_cell_text negative text) from) ≡ cell_product_inquiry table
    negative x
    f
cell_product_text_value table negative x y text other from f is value other_is other_value tree free =
    column_text_tree_value table (cell_product_text (signed_cell_text negative text) from)
    (cell_product_tree negative x f)
    (cell_product_is_parsed negative x y text other from f is value other_is other_value tree free)
    ∙ cell_product_tree_value table negative x f
