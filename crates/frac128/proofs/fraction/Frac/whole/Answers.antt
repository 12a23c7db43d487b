use Rattle.std.proofs.Common.{◌≤◌, ℤ, unsigned_abs, arith, SFits}
use mir.Syntax.{w128}
use Rattle.std.proofs.lemmas.Int.{to_z-of_z}
use Rattle.std.proofs.Math.Nat.{one-dvd}
use Rattle.frac128.specs.Fraction.{IsFrac, largest_fraction_part}
use Rattle.frac128.proofs.fraction.Frac.whole.Goals as goal

-- a whole number in range is a valid fraction
kept_whole : (n : ℤ) → unsigned_abs n ≤ largest_fraction_part → IsFrac (record { num = n; den = 1 })
kept_whole n fits = record {
  lowest_terms = record { den_positive = omega arith; coprime = (one-dvd (unsigned_abs n), one-dvd 1, λ d p q. q) };
  num_fits = fits;
  den_fits = omega arith;
}

pub invariant_of-result : goal.invariant_of-result
invariant_of-result c =
    let fits : SFits w128 c.args.n = c.ranges.n in
    simp to_z-of_z (kept_whole c.args.n c.requires)
