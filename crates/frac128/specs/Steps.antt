-- Steps on fractions that fit.
use Rattle.std.specs.Prelude.{◌≡◌, ◌<◌, ◌*◌, ◌/◌, ◌*ℤ◌, ℕ, ℤ, pos, negsuc, neg_ℤ, int_div, unsigned_abs, suc, zero}
use Rattle.std.specs.Prelude.{if◌then◌else◌, Result, Ok, Err}
use Rattle.frac128.specs.declared.fault.FracFault.{FracFault}
use Rattle.frac128.specs.declared.fault.FracFault.TheVariants.{Overflow, DivisionByZero}
use Rattle.frac128.specs.Divisors.{gcd}
use Rattle.frac128.specs.Fraction.{AreEquivalentFractions, Fraction, IsReducedFraction, fraction_fits}

-- a fraction that fits, or overflow
abbrev pub fraction_or_overflow : Fraction → Result Fraction FracFault
fraction_or_overflow x = if fraction_fits x then Ok x else Err Overflow

-- n over d in lowest terms
unfoldable pub lowest_terms : ℤ → ℕ → Fraction
lowest_terms n d =
    let divisor = gcd (unsigned_abs n) d in
    record { num = int_div n (pos divisor); den = d / divisor }

-- law: `lowest_terms` gives a reduced fraction, and every reduced fraction with the value n over d is this one
abbrev pub ReducedFractionLaw : Type 0
ReducedFractionLaw = (n : ℤ) (d : ℕ) → 0 < d
    → IsReducedFraction (lowest_terms n d) × AreEquivalentFractions (lowest_terms n d) (record { num = n; den = d })
    × ((x : Fraction) → IsReducedFraction x → AreEquivalentFractions x (record { num = n; den = d })
    → x ≡ lowest_terms n d)

-- the quotient of two whole numbers in lowest terms
abbrev pub ratio : ℤ → ℤ → Result Fraction FracFault
ratio n (pos zero) = Err DivisionByZero
ratio n (pos (suc d)) = fraction_or_overflow (lowest_terms n (suc d))
ratio n (negsuc d) = fraction_or_overflow (lowest_terms (neg_ℤ n) (suc d))

-- the product of two fractions
abbrev pub fraction_product : Fraction → Fraction → Result Fraction FracFault
fraction_product x y = ratio (x.num *ℤ y.num) (pos (x.den * y.den))

-- the quotient of two fractions
abbrev pub fraction_quotient : Fraction → Fraction → Result Fraction FracFault
fraction_quotient x y = ratio (x.num *ℤ pos y.den) (pos x.den *ℤ y.num)

-- a step, and then another step on its result; a fault of the first is the result of both
infixl 10 ◌>>=◌
abbrev pub ◌>>=◌ : {A B : Type 0} → Result A FracFault → (A → Result B FracFault) → Result B FracFault
Ok x >>= step = step x
Err fault >>= step = Err fault
