use Rattle.std.proofs.Common.{◌≡◌, ◌-ℤ◌, ℕ, ℤ, pos, neg_ℤ, unsigned_abs, ap, ◌∙◌, arith, SFits, rules}
use mir.Syntax.{w128}
use Rattle.std.proofs.lemmas.Int.{ints, to_z-of_z}
use Rattle.frac128.specs.Fraction.{IsFrac}
use Rattle.frac128.proofs.fraction.Frac.negate.Goals as goal
use Rattle.general_lemmas.proofs.Integers.{abs-neg}

-- subtracting from 0 keeps the magnitude
abs-minus : (z : ℤ) → unsigned_abs (pos 0 -ℤ z) ≡ unsigned_abs z
abs-minus z = ap unsigned_abs (minus_is z) ∙ abs-neg z
  where
    minus_is : (z : ℤ) → pos 0 -ℤ z ≡ neg_ℤ z
    minus_is z = omega (arith, ints)

-- subtracting the numerator from 0 keeps a fraction valid
kept_minus : (z : ℤ) (d : ℕ) → IsFrac (record { num = z; den = d }) → IsFrac (record { num = pos 0 -ℤ z; den = d })
kept_minus z d kept = record {
  lowest_terms = record {
    den_positive = kept.lowest_terms.den_positive;
    coprime =
        rw (abs-minus z) kept.lowest_terms.coprime;
  };
  num_fits = rw (abs-minus z) kept.num_fits;
  den_fits = kept.den_fits;
}

pub invariant_of-result : goal.invariant_of-result
invariant_of-result c =
    let fits : SFits w128 c.self.inside.num = search rules in
    let fits_minus : SFits w128 (pos 0 -ℤ c.self.inside.num) = search rules in
    simp to_z-of_z (kept_minus _ _ c.self.invariant)
