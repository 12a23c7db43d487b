-- The tokens and first faults of a few texts, worked out by hand.
use Rattle.std.specs.Prelude.{◌≡◌, ℕ, pos, true, false, [], ◌∷◌, Some, None, codes}
use Rattle.frac128.specs.Decimals.{NumeralDecimal}
use Rattle.expr_tree.specs.declared.fault.ParseFault.TheVariants.{Syntax, NumeralTooLong}
use Rattle.expr_tree.specs.Faults.{first_parse_fault}
use Rattle.expr_tree.specs.Lexemes.{tokens}
use Rattle.expr_tree.specs.Names.{is_name}
use Rattle.expr_tree.specs.Tokens.{Numeral, Word, WordWithPower, Head, Slash, Caret, Open, Close}

abbrev pub expression_whole_number : ℕ → NumeralDecimal
expression_whole_number n = record { coefficient = n; scale = pos 0 }

-- law: tokens, first faults and names of a few texts
abbrev pub ExpressionTextExamplesLaw : Type 0
ExpressionTextExamplesLaw =
    (tokens (codes "5eV") ≡ Numeral (expression_whole_number 5) ∷ Word (codes "eV") ∷ [])
    × (tokens (codes "f(2)") ≡ Head (codes "f") ∷ Numeral (expression_whole_number 2) ∷ Close ∷ [])
    × (tokens (codes "f (2)") ≡ Word (codes "f") ∷ Open ∷ Numeral (expression_whole_number 2) ∷ Close ∷ [])
    × (tokens (codes "m2 per s**3") ≡ WordWithPower (codes "m") (expression_whole_number 2) ∷ Slash ∷ Word
    (codes "s") ∷ Caret
    ∷ Numeral (expression_whole_number 3) ∷ [])
    × (first_parse_fault (codes "5eV") ≡ None)
    × (first_parse_fault [] ≡ Some (Syntax 0))
    × (first_parse_fault (codes "2 +") ≡ Some (Syntax 3))
    × (first_parse_fault (codes "1..2") ≡ Some (Syntax 2))
    × (first_parse_fault (codes "1|2|3") ≡ Some (Syntax 3))
    × (first_parse_fault (codes "sqrt 4") ≡ Some (Syntax 5))
    × (first_parse_fault (codes "m)") ≡ Some (Syntax 1))
    × (first_parse_fault (codes "m1") ≡ Some (Syntax 0))
    × (first_parse_fault (codes "1e10000") ≡ Some NumeralTooLong)
    × (is_name (codes "x_2") ≡ true)
    × (is_name (codes "m2") ≡ false)
