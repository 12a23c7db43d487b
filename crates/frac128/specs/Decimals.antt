-- The numbers that decimal numerals denote.
use Rattle.std.specs.Prelude.{◌≡◌, ◌<◌, ◌≤◌, ◌+◌, ◌-◌, ◌*◌, ◌^◌, ◌+ℤ◌, ◌-ℤ◌, ℕ, ℤ, pos, negsuc, suc, zero}
use Rattle.std.specs.Prelude.{Bool, true, false, IsTrue, ◌&&◌, ◌==◌, nat_le, if◌then◌else◌}
use Rattle.std.specs.Prelude.{List, [], ◌∷◌, length, fold, Option, Some, None, Result, Ok, Err}
use Rattle.std.specs.List.{list_all, list_any}
use Rattle.frac128.specs.declared.fault.FracFault.{FracFault}
use Rattle.frac128.specs.declared.numeral.NumeralFault.{NumeralFault}
use Rattle.frac128.specs.declared.numeral.NumeralFault.TheVariants.{NotNumeral, TooLong}
use Rattle.frac128.specs.Fraction.{Fraction, largest_fraction_part, whole_fraction}
use Rattle.frac128.specs.Numerals.{is_numeral, is_numeral_digit, is_numeral_exponent_mark, is_numeral_minus}
use Rattle.frac128.specs.Numerals.{is_numeral_point, prefix_until, suffix_from}
use Rattle.frac128.specs.Sign.{signed_numerator}
use Rattle.frac128.specs.Steps.{ratio}

-- a coefficient times ten to the scale
pub record NumeralDecimal : Type 0 where
  pub coefficient : ℕ
  pub scale : ℤ

-- the largest exponent
abbrev pub most_numeral_exponent : ℕ
most_numeral_exponent = 9999

-- the digits among some bytes, as numbers
abbrev pub numeral_digits : List ℕ → List ℕ
numeral_digits [] = []
numeral_digits (b ∷ bs) = if is_numeral_digit b then (b - 48) ∷ numeral_digits bs else numeral_digits bs

-- the whole number that digits write
abbrev pub value_of_numeral_digits : List ℕ → ℕ
value_of_numeral_digits ds = fold (λ n d. n * 10 + d) 0 ds

-- the digit is 0
abbrev pub is_zero_numeral_digit : ℕ → Bool
is_zero_numeral_digit zero = true
is_zero_numeral_digit (suc n) = false

-- the digits without the zeros at their end
abbrev pub numeral_digits_without_zeros : List ℕ → List ℕ
numeral_digits_without_zeros [] = []
numeral_digits_without_zeros (d ∷ ds) = if list_all is_zero_numeral_digit (d ∷ ds) then [] else d ∷
    numeral_digits_without_zeros ds

-- the bytes before the `e` or `E`
abbrev pub numeral_mantissa : List ℕ → List ℕ
numeral_mantissa bytes = prefix_until is_numeral_exponent_mark bytes

-- the bytes from the `e` or `E` on
abbrev pub numeral_exponent_part : List ℕ → List ℕ
numeral_exponent_part bytes = suffix_from is_numeral_exponent_mark bytes

-- the number of digits of a mantissa after the point
abbrev pub numeral_decimal_places : List ℕ → ℕ
numeral_decimal_places bytes = length (suffix_from is_numeral_point bytes) - 1

-- the number that all digits of a mantissa write without the zeros at their end
abbrev pub numeral_coefficient : List ℕ → ℕ
numeral_coefficient bytes = value_of_numeral_digits (numeral_digits_without_zeros (numeral_digits bytes))

-- the number of zeros at the end of the digits of a mantissa
abbrev pub numeral_end_zeros : List ℕ → ℕ
numeral_end_zeros bytes = length (numeral_digits bytes) - length (numeral_digits_without_zeros (numeral_digits bytes))

-- the coefficient and the number of these zeros, or `None` if the coefficient is too large
abbrev pub short_numeral_coefficient : List ℕ → Option (ℕ × ℕ)
short_numeral_coefficient bytes =
    if nat_le (numeral_coefficient bytes) largest_fraction_part then Some
    (numeral_coefficient bytes, numeral_end_zeros bytes) else None

-- the magnitude of the exponent
abbrev pub numeral_exponent_size : List ℕ → ℕ
numeral_exponent_size text = value_of_numeral_digits (numeral_digits text)

-- the exponent, which is below 0 if there is a minus
abbrev pub numeral_exponent : List ℕ → ℤ
numeral_exponent text = signed_numerator (list_any is_numeral_minus text) (numeral_exponent_size text)

-- a mantissa times ten to a power
abbrev pub decimal_of_numeral : List ℕ → ℤ → NumeralDecimal
decimal_of_numeral bytes power =
    if numeral_coefficient bytes == 0
    then record { coefficient = 0; scale = pos 0 }
    else record {
      coefficient = numeral_coefficient bytes;
      scale = power -ℤ pos (numeral_decimal_places bytes) +ℤ pos (numeral_end_zeros bytes);
    }

-- the coefficient and the exponent are not too large
abbrev pub is_short_numeral : List ℕ → Bool
is_short_numeral bytes =
    nat_le (numeral_coefficient (numeral_mantissa bytes)) largest_fraction_part
    && nat_le (numeral_exponent_size (numeral_exponent_part bytes)) most_numeral_exponent

-- the result of reading the bytes as a numeral
abbrev pub numeral_reading : List ℕ → Result NumeralDecimal NumeralFault
numeral_reading bytes =
    if is_numeral bytes
    then (
    if is_short_numeral bytes
    then Ok (decimal_of_numeral (numeral_mantissa bytes) (numeral_exponent (numeral_exponent_part bytes)))
    else Err TooLong
    )
    else Err NotNumeral

-- a whole number times ten to a power
abbrev pub whole_times_ten_power : ℕ → ℤ → Result Fraction FracFault
whole_times_ten_power n (pos k) = ratio (pos (n * 10 ^ k)) (pos 1)
whole_times_ten_power n (negsuc k) = ratio (pos n) (pos (10 ^ suc k))

-- the value of a numeral
abbrev pub fraction_of_decimal : NumeralDecimal → Result Fraction FracFault
fraction_of_decimal x = whole_times_ten_power x.coefficient x.scale

-- law: digits alone are a numeral, and its value is the whole number that they write
abbrev pub DigitNumeralLaw : Type 0
DigitNumeralLaw = (bytes : List ℕ) → 0 < length bytes → IsTrue (list_all is_numeral_digit bytes)
    → value_of_numeral_digits (numeral_digits bytes) ≤ largest_fraction_part
    → (x : NumeralDecimal) × (numeral_reading bytes ≡ Ok x)
    × (fraction_of_decimal x ≡ Ok (whole_fraction (pos (value_of_numeral_digits (numeral_digits bytes)))))

-- law: a numeral within the limits has the value of the whole number of all its digits, times ten to the exponent less
-- the number of digits after the point
abbrev pub NumeralLaw : Type 0
NumeralLaw = (bytes : List ℕ) → is_numeral bytes ≡ true → is_short_numeral bytes ≡ true
    → (x : NumeralDecimal) × (numeral_reading bytes ≡ Ok x)
    × (fraction_of_decimal x ≡ whole_times_ten_power (value_of_numeral_digits (numeral_digits (numeral_mantissa bytes)))
    (numeral_exponent (numeral_exponent_part bytes) -ℤ pos (numeral_decimal_places (numeral_mantissa bytes))))
