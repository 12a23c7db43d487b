-- The exact text of a fraction.
use Rattle.std.specs.Prelude.{◌≡◌, ◌++◌, ◌==◌, [], ℕ, List, Bool, true, false, pos, if◌then◌else◌, ◌⊎◌, Ok, codes}
use Rattle.std.specs.Fmt.{decimal, signed_decimal}
use Rattle.std.specs.Str.Parse.{IsNumeral, digits_value}
use Rattle.frac128.specs.Fraction.{Fraction, IsFrac}
use Rattle.frac128.specs.Sign.{signed_numerator}
use Rattle.frac128.specs.Steps.{ratio}
use Rattle.digits_print.specs.Back.{IsReadAsDigits}

-- a fraction as `n`, or as `n|d` if the denominator is above 1
abbrev pub exact_print_text : Fraction → List ℕ
exact_print_text x = if x.den == 1 then signed_decimal x.num else signed_decimal x.num ++ codes "|" ++ decimal x.den

-- the sign in front of a number
abbrev pub printed_sign_text : Bool → List ℕ
printed_sign_text true = codes "-"
printed_sign_text false = []

-- the text is an optional minus and a decimal numeral, which is also one of the product, and has the value x
pub record PrintReadsAsWhole (text : List ℕ) (x : Fraction) : Type 0 where
  pub has_minus : Bool
  pub numerator_digits : List ℕ
  pub top_digits : IsNumeral 10 numerator_digits
  pub top_read : IsReadAsDigits numerator_digits (digits_value 10 numerator_digits)
  pub spelled_whole : text ≡ printed_sign_text has_minus ++ numerator_digits
  pub value : ratio (signed_numerator has_minus (digits_value 10 numerator_digits)) (pos 1) ≡ Ok x

-- the text is an optional minus and two decimal numerals, which are also numerals of the product, separated by a bar,
-- and their quotient is x
pub record PrintReadsAsQuotient (text : List ℕ) (x : Fraction) : Type 0 where
  pub has_minus : Bool
  pub numerator_digits : List ℕ
  pub bottom : List ℕ
  pub top_digits : IsNumeral 10 numerator_digits
  pub bottom_digits : IsNumeral 10 bottom
  pub top_read : IsReadAsDigits numerator_digits (digits_value 10 numerator_digits)
  pub bottom_read : IsReadAsDigits bottom (digits_value 10 bottom)
  pub spelled_quotient : text ≡ printed_sign_text has_minus ++ numerator_digits ++ codes "|" ++ bottom
  pub value : ratio (signed_numerator has_minus (digits_value 10 numerator_digits)) (pos (digits_value 10 bottom)) ≡ Ok
      x

-- law: the exact text of each fraction of the program reads as that fraction
abbrev pub ExactPrintLaw : Type 0
ExactPrintLaw = (x : Fraction) → IsFrac x → PrintReadsAsWhole (exact_print_text x) x ⊎ PrintReadsAsQuotient
    (exact_print_text x) x
