-- The exponents of powers.
use Rattle.std.specs.Prelude.{◌<◌, ◌≤◌, ◌&&◌, Bool, Option, Some, None, unsigned_abs, nat_le, if◌then◌else◌}
use Rattle.frac128.specs.Fraction.{Fraction}

-- the magnitudes of the numerator and the denominator are at most 32,767
abbrev pub is_power_degree : Fraction → Bool
is_power_degree by = nat_le (unsigned_abs by.num) 32767 && nat_le by.den 32767

-- the facts known about each exponent of a power in the program
pub record IsPowerDegree (by : Fraction) : Type 0 where
  pub den_not_zero : 0 < by.den
  pub num_fits : unsigned_abs by.num ≤ 32767
  pub den_fits : by.den ≤ 32767

-- a fraction as the exponent of a power, if it is in range
abbrev pub as_power_degree : Fraction → Option Fraction
as_power_degree by = if is_power_degree by then Some by else None
