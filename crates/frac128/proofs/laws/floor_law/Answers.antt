use Rattle.std.proofs.Common.{true, false, ap, subst, sym, ◌∙◌, neg_ℤ, ◌+ℤ◌, ◌*ℤ◌, ◌<ℤ◌, ◌≡◌, ◌+◌, ◌*◌, ◌/◌, ◌<◌, ◌≤◌}
use Rattle.std.proofs.Common.{ℕ, ℤ, pos, negsuc, arith}
use Rattle.std.proofs.lemmas.Int.{ints}
use Rattle.std.proofs.Math.Nat.{mul_comm}
use Rattle.std.specs.Int.{int_div_euclid}
use Rattle.frac128.specs.Floor.{FractionFloorLaw, IsFractionFloor}
use Rattle.frac128.proofs.Signs.{mul-signed_numerator}
use Rattle.frac128.proofs.laws.floor_law.Goals as goal

-- the quotient is at most the ratio, and the next number is above it
at_most : (a d : ℕ) → 0 < d → a / d * d ≤ a
at_most a d some = omega (arith, mul_comm (a / d) d)

next_above : (a d : ℕ) → 0 < d → a < (a / d + 1) * d
next_above a d some = omega (arith, mul_comm (a / d) d)

floor_law : FractionFloorLaw
floor_law x some = by_sign x.num x.den some
  where
    by_sign : (n : ℤ) (d : ℕ) → 0 < d → IsFractionFloor (record { num = n; den = d }) (int_div_euclid n (pos d))
    by_sign (pos a) d some =
        let low = at_most a d some in
        let high = next_above a d some in
        record { floor_below = omega (arith, ints); floor_above = omega (arith, ints) }
    by_sign (negsuc a) d some =
        let low = at_most a d some in
        let high = next_above a d some in
        let next : (negsuc (a / d) +ℤ pos 1) *ℤ pos d ≡ neg_ℤ (pos (a / d * d)) =
        ap (λ z. z *ℤ pos d) (one_more (a / d)) ∙ mul-signed_numerator true false (a / d) d in
        record {
          floor_below = omega (arith, ints);
          floor_above = subst (λ z. negsuc a <ℤ z) (sym next)
              (omega (arith, ints));
        }
      where
        one_more : (q : ℕ) → negsuc q +ℤ pos 1 ≡ neg_ℤ (pos q)
        one_more q = omega (arith, ints)

pub returns : goal.returns
returns c = floor_law
