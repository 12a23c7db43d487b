-- Sums and differences.
use Rattle.std.specs.Prelude.{◌/◌, ◌*ℤ◌, ◌+ℤ◌, ◌-ℤ◌, ◌&&◌, ℕ, ℤ, Bool, pos, unsigned_abs, nat_le, if◌then◌else◌, Result}
use Rattle.std.specs.Prelude.{Ok, Err}
use Rattle.frac128.specs.declared.fault.FracFault.{FracFault}
use Rattle.frac128.specs.declared.fault.FracFault.TheVariants.{Overflow}
use Rattle.frac128.specs.Divisors.{lcm}
use Rattle.frac128.specs.Fraction.{Fraction, largest_fraction_part}
use Rattle.frac128.specs.Steps.{lowest_terms}

-- the number is in -most..most
abbrev pub in_numerator_range : ℤ → Bool
in_numerator_range n = nat_le (unsigned_abs n) largest_fraction_part

-- the number, or `Overflow` if it is out of range
abbrev pub numerator_or_overflow : ℤ → Result ℤ FracFault
numerator_or_overflow n = if in_numerator_range n then Ok n else Err Overflow

-- the numerator of x over a multiple of its denominator
abbrev pub numerator_over : Fraction → ℕ → ℤ
numerator_over x multiple = x.num *ℤ pos (multiple / x.den)

-- a sum over a denominator, or `Overflow` if it is out of range
abbrev pub fraction_sum_over : ℕ → ℤ → Result Fraction FracFault
fraction_sum_over multiple sum = if in_numerator_range sum then Ok (lowest_terms sum multiple) else Err Overflow

-- a step on the numerators of two fractions over a common multiple of their denominators:
-- the multiple, both numerators and the result of the step must be in range
abbrev pub fraction_step_over : (ℤ → ℤ → ℤ) → ℕ → ℤ → ℤ → Result Fraction FracFault
fraction_step_over step multiple left right =
    if in_numerator_range (pos multiple) && in_numerator_range left && in_numerator_range right
    then fraction_sum_over multiple (step left right)
    else Err Overflow

-- the sum over the least common multiple of the denominators
abbrev pub fraction_sum : Fraction → Fraction → Result Fraction FracFault
fraction_sum x y =
    let multiple = lcm x.den y.den in
    fraction_step_over ◌+ℤ◌ multiple (numerator_over x multiple) (numerator_over y multiple)

-- the difference over the least common multiple of the denominators
abbrev pub fraction_difference : Fraction → Fraction → Result Fraction FracFault
fraction_difference x y =
    let multiple = lcm x.den y.den in
    fraction_step_over ◌-ℤ◌ multiple (numerator_over x multiple) (numerator_over y multiple)
