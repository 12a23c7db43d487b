use Rattle.std.proofs.Common.{◌≡◌, ◌-ℤ◌, ℕ, ℤ, pos, neg_ℤ, unsigned_abs, ap, ◌∙◌, arith, SFits, rules}
use mir.Syntax.{w32}
use Rattle.std.proofs.lemmas.Int.{ints, to_z-of_z}
use Rattle.quantity.specs.Exponents.{IsExponent}
use Rattle.quantity.proofs.exponent.Exponent.negate.Goals as goal
use Rattle.general_lemmas.proofs.Integers.{abs-neg}

-- subtracting from 0 preserves the magnitude
abs-minus : (z : ℤ) → unsigned_abs (pos 0 -ℤ z) ≡ unsigned_abs z
abs-minus z = ap unsigned_abs (minus_is z) ∙ abs-neg z
  where
    minus_is : (z : ℤ) → pos 0 -ℤ z ≡ neg_ℤ z
    minus_is z = omega (arith, ints)

-- negating an exponent gives an exponent
exponent_minus : (z : ℤ) (d : ℕ) → IsExponent (record { num = z; den = d })
    → IsExponent (record { num = pos 0 -ℤ z; den = d })
exponent_minus z d is = record {
  exponent_reduced = record {
    den_positive = is.exponent_reduced.den_positive;
    coprime =
        rw (abs-minus z) is.exponent_reduced.coprime;
  };
  num_fits = rw (abs-minus z) is.num_fits;
  den_fits = is.den_fits;
}

pub invariant_of-result : goal.invariant_of-result
invariant_of-result c =
    let fits : SFits w32 c.self.inside.num = search rules in
    let fits_minus : SFits w32 (pos 0 -ℤ c.self.inside.num) = search rules in
    simp to_z-of_z (exponent_minus _ _ c.self.invariant)
