-- Rounding a ratio of two whole numbers to a given number of significant digits.
use Rattle.std.specs.Prelude.{◌≡◌, ◌<◌, ◌-◌, ◌*◌, ◌/◌, ◌^◌, ◌==◌, ◌+ℤ◌, ◌-ℤ◌, ℕ, ℤ, pos, neg_ℤ, length, nat_le}
use Rattle.std.specs.Prelude.{if◌then◌else◌}
use Rattle.std.specs.Int.Digits.{digits_of}
use Rattle.frac128.specs.Nearest.{fraction_nearest_whole}
use Rattle.frac128.specs.Decimals.{NumeralDecimal}
use Rattle.digits_print.specs.Nearest.{IsNearestDecimal, decimal_scale_denominator, decimal_scale_numerator}

-- the number of decimal digits of a whole number, which is 0 for 0
unfoldable pub digit_count : ℕ → ℕ
digit_count m = length (digits_of 10 m)

-- the power of ten of the first digit of a / b; below 1 it is minus the least k with b ≤ a * 10 ^ k, and this k is the
-- number of digits of (b - 1) / a
unfoldable pub power_of_first_digit : ℕ → ℕ → ℤ
power_of_first_digit a b = if nat_le b a then pos (digit_count (a / b) - 1) else neg_ℤ (pos (digit_count ((b - 1) / a)))

-- a whole number m of at most n digits times ten to the power of the scale; if m is 10 ^ n, its last zero is moved to
-- the scale
abbrev pub rounding_carry : ℕ → ℕ → ℤ → NumeralDecimal
rounding_carry n m scale =
    if m == 10 ^ n
    then record { coefficient = 10 ^ (n - 1); scale = scale +ℤ pos 1 }
    else record { coefficient = m; scale = scale }

-- a / b rounded to a multiple of ten to the power of the scale
unfoldable pub rounded_at_scale : ℕ → ℕ → ℕ → ℤ → NumeralDecimal
rounded_at_scale n a b scale =
    rounding_carry n (fraction_nearest_whole (a * decimal_scale_denominator scale) (b * decimal_scale_numerator scale))
    scale

-- a / b rounded to n significant digits
unfoldable pub digits_rounding : ℕ → ℕ → ℕ → NumeralDecimal
digits_rounding n a b = rounded_at_scale n a b (power_of_first_digit a b -ℤ pos (n - 1))

-- law: `digits_rounding` is the nearest decimal, and it is the only one
abbrev pub NearestDecimalLaw : Type 0
NearestDecimalLaw = (n a b : ℕ) → 0 < n → 0 < a → 0 < b
    → IsNearestDecimal n a b (digits_rounding n a b) × ((d : NumeralDecimal) → IsNearestDecimal n a b d
    → d ≡ digits_rounding n a b)
