use Rattle.std.proofs.Common.{◌≤◌, arith, ℤ, unsigned_abs, SFits}
use mir.Syntax.{w32}
use Rattle.std.proofs.lemmas.Int.{ints, to_z-of_z}
use Rattle.frac128.specs.Fraction.{whole_fraction}
use Rattle.quantity.specs.Exponents.{IsExponent}
use Rattle.quantity.proofs.Fractions.{whole_exponent_is_reduced}
use Rattle.quantity.proofs.exponent.whole.Goals as goal

-- a whole number in range is an exponent
exponent_whole : (n : ℤ) → unsigned_abs n ≤ 32767 → IsExponent (whole_fraction n)
exponent_whole n fits = record {
  exponent_reduced = whole_exponent_is_reduced n;
  num_fits = fits;
  den_fits =
      omega arith;
}

pub invariant_of-result : goal.invariant_of-result
invariant_of-result c =
    let fits : SFits w32 c.args.num = c.ranges.num in
    let size : unsigned_abs c.args.num ≤ 32767 = omega (arith, ints) in
    simp to_z-of_z (exponent_whole c.args.num size)
