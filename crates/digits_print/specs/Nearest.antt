-- The decimal with a given number of significant digits that is nearest to a ratio of two whole numbers.
use Rattle.std.specs.Prelude.{◌≡◌, ◌≤◌, ◌<◌, ◌-◌, ◌*◌, ◌%◌, ◌^◌, ◌⊎◌, ℕ, ℤ, pos, negsuc, suc}
use Rattle.std.specs.Int.{abs_diff}
use Rattle.frac128.specs.Decimals.{NumeralDecimal}

-- the numerator of ten to the power of the scale
abbrev pub decimal_scale_numerator : ℤ → ℕ
decimal_scale_numerator (pos k) = 10 ^ k
decimal_scale_numerator (negsuc k) = 1

-- the denominator of ten to the power of the scale
abbrev pub decimal_scale_denominator : ℤ → ℕ
decimal_scale_denominator (pos k) = 1
decimal_scale_denominator (negsuc k) = 10 ^ suc k

-- m is a whole number with n decimal digits, the first of which is not 0
pub record HasDigits (n m : ℕ) : Type 0 where
  pub lower_bound : 10 ^ (n - 1) ≤ m
  pub upper_bound : m < 10 ^ n

-- the distance of a decimal from a / b, times b and the `decimal_scale_denominator` of the decimal
unfoldable pub gap_of_decimal : ℕ → ℕ → NumeralDecimal → ℕ
gap_of_decimal a b d = abs_diff (a * decimal_scale_denominator d.scale)
    (d.coefficient * decimal_scale_numerator d.scale * b)

-- d is at most as far from a / b as e is
abbrev pub IsDecimalNoFarther : ℕ → ℕ → NumeralDecimal → NumeralDecimal → Type 0
IsDecimalNoFarther a b d e = gap_of_decimal a b d * decimal_scale_denominator e.scale ≤ gap_of_decimal a b e *
    decimal_scale_denominator d.scale

-- d is less than e
abbrev pub IsLessDecimal : NumeralDecimal → NumeralDecimal → Type 0
IsLessDecimal d e = d.coefficient * decimal_scale_numerator d.scale * decimal_scale_denominator e.scale < e.coefficient
    * decimal_scale_numerator e.scale * decimal_scale_denominator d.scale

-- d is preferred over an equally near e: d is even and e is odd or, if both are odd, d is the greater one
abbrev pub IsPreferredDecimal : NumeralDecimal → NumeralDecimal → Type 0
IsPreferredDecimal d e = ((d.coefficient % 2 ≡ 0) × (e.coefficient % 2 ≡ 1))
    ⊎ ((d.coefficient % 2 ≡ 1) × (e.coefficient % 2 ≡ 1) × IsLessDecimal e d)

-- d is the nearest to a / b of all decimals with n significant digits and any scale
pub record IsNearestDecimal (n a b : ℕ) (d : NumeralDecimal) : Type 0 where
  pub digits : HasDigits n d.coefficient
  pub nearest : (e : NumeralDecimal) → HasDigits n e.coefficient → IsDecimalNoFarther a b d e
  pub tie_to_even : (e : NumeralDecimal) → HasDigits n e.coefficient → IsDecimalNoFarther a b e d
      → (d ≡ e) ⊎ IsPreferredDecimal d e
