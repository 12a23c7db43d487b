-- The order of fractions.
use Rattle.std.specs.Prelude.{◌≡◌, ◌<◌, ◌*ℤ◌, ◌<ℤ◌, ◌≤ℤ◌, ◌↔◌, pos, IsTrue}
use Rattle.std.specs.declared.cmp.Ordering.{Ordering}
use Rattle.std.specs.declared.cmp.Ordering.TheVariants.{Less, Equal}
use Rattle.std.specs.Ordering.{int_cmp, is_le, ordering_reverse}
use Rattle.frac128.specs.Fraction.{Fraction, IsReducedFraction}

-- compares the values of x and y by the cross products
abbrev pub fraction_order : Fraction → Fraction → Ordering
fraction_order x y = int_cmp (x.num *ℤ pos y.den) (y.num *ℤ pos x.den)

-- x is less than y
abbrev pub IsLessFraction : Fraction → Fraction → Type 0
IsLessFraction x y = (x.num *ℤ pos y.den) <ℤ (y.num *ℤ pos x.den)

-- x is at most y
abbrev pub IsFractionAtMost : Fraction → Fraction → Type 0
IsFractionAtMost x y = (x.num *ℤ pos y.den) ≤ℤ (y.num *ℤ pos x.den)

-- law: the comparison decides whether one fraction is less than the other, and whether it is at most the other
abbrev pub FractionComparisonLaw : Type 0
FractionComparisonLaw = (x y : Fraction) → ((fraction_order x y ≡ Less) ↔ IsLessFraction x y)
    × (IsTrue (is_le (fraction_order x y)) ↔ IsFractionAtMost x y)

-- law: swapping two fractions reverses the comparison, "less" is transitive, and reduced fractions that compare
-- as equal are equal
abbrev pub FractionOrderLaw : Type 0
FractionOrderLaw = ((x y : Fraction) → fraction_order x y ≡ ordering_reverse (fraction_order y x))
    × ((x y z : Fraction) → 0 < x.den → 0 < y.den → 0 < z.den
    → fraction_order x y ≡ Less → fraction_order y z ≡ Less → fraction_order x z ≡ Less)
    × ((x y : Fraction) → IsReducedFraction x → IsReducedFraction y → fraction_order x y ≡ Equal → x ≡ y)
