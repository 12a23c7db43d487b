-- A number times an expression, as a text and as a tree.
use Rattle.std.specs.Prelude.{◌≡◌, ◌++◌, ℕ, Bool, true, false, List, ◌∷◌, codes, None, Ok}
use Rattle.frac128.specs.Decimals.{NumeralDecimal, numeral_reading}
use Rattle.frac128.specs.Numerals.{is_numeral}
use Rattle.expr_tree.specs.Faults.{first_parse_fault}
use Rattle.expr_tree.specs.ParseResult.{parse_of}
use Rattle.expr_tree.specs.Syntax.{Syntax, Number, Negate, Group, Juxtaposed, Member, NoMember}

-- the text of a number times an expression
abbrev pub cell_product_text : (number from : List ℕ) → List ℕ
cell_product_text number from = codes "(" ++ (number ++ (codes ") (" ++ (from ++ codes ")")))

-- a numeral, perhaps with a minus sign before it
abbrev pub signed_cell_text : (negative : Bool) → List ℕ → List ℕ
signed_cell_text false numeral = numeral
signed_cell_text true numeral = 45 ∷ numeral

abbrev pub cell_number_tree : (negative : Bool) → NumeralDecimal → Syntax
cell_number_tree false x = Number x
cell_number_tree true x = Negate (Number x)

-- the tree of a number and an expression, each in parentheses, side by side
abbrev pub cell_product_tree : (negative : Bool) → NumeralDecimal → Syntax → Syntax
cell_product_tree negative x from =
    Juxtaposed (Member (Group (cell_number_tree negative x)) (Member (Group from) NoMember))

-- a text is a numeral with this value
pub record IsCellNumeral (text : List ℕ) (x : NumeralDecimal) : Type 0 where
  pub spelt : is_numeral text ≡ true
  pub reading_is : numeral_reading text ≡ Ok x

-- an expression for which some number of this sign has a product without a fault; which number it is makes no
-- difference
pub record IsCellFactor (negative : Bool) (from : List ℕ) (f : Syntax) : Type 0 where
  pub tree : parse_of None from ≡ Ok f
  pub number : List ℕ
  pub decimal : NumeralDecimal
  pub number_is_numeral : IsCellNumeral number decimal
  pub no_product_fault : first_parse_fault (cell_product_text (signed_cell_text negative number) from) ≡ None

-- law: each number of this sign times the expression is parsed as their product
abbrev pub CellProductLaw : Type 0
CellProductLaw = (negative : Bool) (text : List ℕ) (x : NumeralDecimal) (from : List ℕ) (f : Syntax)
    → IsCellNumeral text x → IsCellFactor negative from f
    → parse_of None (cell_product_text (signed_cell_text negative text) from) ≡ Ok (cell_product_tree negative x f)
