-- Whole numbers in decimal digits, read as the numerals of the product.
use Rattle.std.specs.Prelude.{◌≡◌, ◌≤◌, ℕ, List, pos, Ok}
use Rattle.std.specs.Fmt.{decimal}
use Rattle.frac128.specs.Decimals.{NumeralDecimal, fraction_of_decimal, numeral_reading}
use Rattle.frac128.specs.Fraction.{largest_fraction_part, whole_fraction}

-- the bytes read as a numeral with the value n
pub record IsReadAsDigits (bytes : List ℕ) (n : ℕ) : Type 0 where
  pub numeral : NumeralDecimal
  pub read_is : numeral_reading bytes ≡ Ok numeral
  pub value_is : fraction_of_decimal numeral ≡ Ok (whole_fraction (pos n))

-- law: the digits of each whole number that fits read as that number
abbrev pub DigitsReadBackLaw : Type 0
DigitsReadBackLaw = (n : ℕ) → n ≤ largest_fraction_part → IsReadAsDigits (decimal n) n
