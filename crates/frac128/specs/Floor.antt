-- The whole part of a fraction.
use Rattle.std.specs.Prelude.{◌<◌, ◌*ℤ◌, ◌+ℤ◌, ◌≤ℤ◌, ◌<ℤ◌, ℤ, pos}
use Rattle.std.specs.Int.{int_div_euclid}
use Rattle.frac128.specs.Fraction.{Fraction, whole_fraction}

-- the quotient of numerator and denominator, rounded down
abbrev pub fraction_floor : Fraction → Fraction
fraction_floor x = whole_fraction (int_div_euclid x.num (pos x.den))

-- the whole number n is at most x, and the next one is above x
pub record IsFractionFloor (x : Fraction) (n : ℤ) : Type 0 where
  pub floor_below : (n *ℤ pos x.den) ≤ℤ x.num
  pub floor_above : x.num <ℤ ((n +ℤ pos 1) *ℤ pos x.den)

-- law: the quotient rounded down is the greatest whole number that is at most x
abbrev pub FractionFloorLaw : Type 0
FractionFloorLaw = (x : Fraction) → 0 < x.den → IsFractionFloor x (fraction_floor x).num
