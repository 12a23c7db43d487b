-- Sums and products of fractions of any size, not reduced.
use Rattle.std.specs.Prelude.{◌≡◌, ◌<◌, ◌*◌, ◌*ℤ◌, ◌+ℤ◌, ◌-ℤ◌, pos, Ok}
use Rattle.frac128.specs.Fraction.{AreEquivalentFractions, Fraction}
use Rattle.frac128.specs.Steps.{fraction_product, fraction_quotient}
use Rattle.frac128.specs.Sums.{fraction_difference, fraction_sum}

-- the sum
abbrev pub exact_fraction_sum : Fraction → Fraction → Fraction
exact_fraction_sum x y = record { num = (x.num *ℤ pos y.den) +ℤ (y.num *ℤ pos x.den); den = x.den * y.den }

-- the difference
abbrev pub exact_fraction_difference : Fraction → Fraction → Fraction
exact_fraction_difference x y = record { num = (x.num *ℤ pos y.den) -ℤ (y.num *ℤ pos x.den); den = x.den * y.den }

-- the product
abbrev pub exact_fraction_product : Fraction → Fraction → Fraction
exact_fraction_product x y = record { num = x.num *ℤ y.num; den = x.den * y.den }

-- law: if a step on fractions that fit has a result, its value is that of the exact step; the product of a quotient
-- and its divisor has the value of the dividend
abbrev pub ExactFractionStepsLaw : Type 0
ExactFractionStepsLaw = (x y z : Fraction) → 0 < x.den → 0 < y.den
    → (fraction_sum x y ≡ Ok z → AreEquivalentFractions z (exact_fraction_sum x y))
    × (fraction_difference x y ≡ Ok z → AreEquivalentFractions z (exact_fraction_difference x y))
    × (fraction_product x y ≡ Ok z → AreEquivalentFractions z (exact_fraction_product x y))
    × (fraction_quotient x y ≡ Ok z → AreEquivalentFractions (exact_fraction_product z y) x)
