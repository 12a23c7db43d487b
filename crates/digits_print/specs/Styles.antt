-- The styles in which numbers are written.
use Rattle.std.specs.Prelude.{◌≤◌, ℕ, List, ⊤}
use Rattle.frac128.specs.Fraction.{Fraction}
use Rattle.digits_print.specs.Digits.{digits_text}
use Rattle.digits_print.specs.Exact.{exact_print_text}
use Rattle.digits_print.specs.declared.style.Style.{Style}
use Rattle.digits_print.specs.declared.style.Style.TheVariants.{Digits, Exact}

-- the style is exact, or has 1 to 36 digits
abbrev pub IsPrintStyle : Style → Type 0
IsPrintStyle (Digits n) = (1 ≤ n) × (n ≤ 36)
IsPrintStyle Exact = ⊤

-- the text of a number in a style
abbrev pub printed_number_text : Style → Fraction → List ℕ
printed_number_text (Digits n) x = digits_text x n
printed_number_text Exact x = exact_print_text x
