-- The text of a fraction with a given number of significant digits.
use Rattle.std.specs.Prelude.{◌≡◌, ◌++◌, ◌⊎◌, ℕ, List, pos, unsigned_abs, if◌then◌else◌, codes}
use Rattle.frac128.specs.Decimals.{NumeralDecimal}
use Rattle.frac128.specs.Fraction.{Fraction}
use Rattle.frac128.specs.Sign.{is_negative_fraction, is_zero_fraction}
use Rattle.digits_print.specs.Exact.{printed_sign_text}
use Rattle.digits_print.specs.Layout.{decimal_text}
use Rattle.digits_print.specs.Nearest.{IsNearestDecimal}
use Rattle.digits_print.specs.RatioRounding.{digits_rounding}

-- the text is a minus if x is below 0, followed by the decimal with n digits that is nearest to its magnitude
pub record IsNearestText (x : Fraction) (n : ℕ) (text : List ℕ) : Type 0 where
  pub decimal : NumeralDecimal
  pub nearest : IsNearestDecimal n (unsigned_abs x.num) x.den decimal
  pub decimal_spelled : text ≡ printed_sign_text (is_negative_fraction x) ++ decimal_text n decimal

-- the text is that of 0 or of the nearest decimal
abbrev pub IsDigitsText : Fraction → ℕ → List ℕ → Type 0
IsDigitsText x n text = ((x.num ≡ pos 0) × (text ≡ codes "0")) ⊎ IsNearestText x n text

-- the text of a fraction with n digits, computed by rounding
abbrev pub digits_text : Fraction → ℕ → List ℕ
digits_text x n =
    if is_zero_fraction x
    then codes "0"
    else printed_sign_text (is_negative_fraction x) ++ decimal_text n (digits_rounding n (unsigned_abs x.num) x.den)
