-- Comparing a whole number plus a fraction with half of a unit.
use Rattle.std.proofs.Common.{◌≡◌, ◌<◌, ◌≤◌, ◌+◌, ◌*◌, ℕ, arith, sym, ap, ◌∙◌}
use Rattle.std.specs.Ordering.{MatchOrdering, nat_cmp, ordering_then}
use Rattle.std.specs.declared.cmp.Ordering.{Ordering}
use Rattle.std.specs.declared.cmp.Ordering.TheVariants.{Less, Equal, Greater}
use Rattle.std.specs.Cmp.{nat_cmp_is}
use Rattle.std.proofs.lemmas.Cmp.{ranked}
use Rattle.std.proofs.lemmas.Nat.{mul-le}

-- doubling distributes over the sum of the whole number and the part
rounding_doubled_value : (w b p : ℕ) → 2 * (w * b + p) ≡ 2 * (w * b) + 2 * p
rounding_doubled_value w b p = omega arith

-- the product of b and a unit is twice the product of b and half of the unit
rounding_half_unit : (b h u : ℕ) → 2 * h ≡ u → b * u ≡ 2 * (h * b)
rounding_half_unit b h u e = ap (λ v. b * v) (sym e) ∙ turn b h
  where
    turn : (b h : ℕ) → b * (2 * h) ≡ 2 * (h * b)
    turn b h = omega arith

-- if the whole number is below half of the unit, the value is less than half of the product
rounding_below_half : (w p b h u : ℕ) → 2 * h ≡ u → p < b → w < h → 2 * (w * b + p) < b * u
rounding_below_half w p b h u e part less =
    let times : (w + 1) * b ≤ h * b = mul-le (w + 1) b h b (omega arith) (omega arith) in
    let one : (w + 1) * b ≡ w * b + b = omega arith in
    omega (arith, rounding_doubled_value w b p, rounding_half_unit b h u e)

-- if the whole number is above half of the unit, the value is more than half of the product
rounding_above_half : (w p b h u : ℕ) → 2 * h ≡ u → 0 < b → h < w → b * u < 2 * (w * b + p)
rounding_above_half w p b h u e some more =
    let times : (h + 1) * b ≤ w * b = mul-le (h + 1) b w b (omega arith) (omega arith) in
    let one : (h + 1) * b ≡ h * b + b = omega arith in
    omega (arith, rounding_doubled_value w b p, rounding_half_unit b h u e)

-- the comparison is decided by the whole number and, at exactly half of the unit, by the part
pub rounding_half_by_parts : (w p b h u : ℕ) (order part : Ordering) → 2 * h ≡ u → p < b → order ≡ nat_cmp w h
    → part ≡ nat_cmp p 0
    → ordering_then order part ≡ nat_cmp (2 * (w * b + p)) (b * u)
rounding_half_by_parts w p b h u order part e low order_is part_is =
    nat_cmp_is _ _ _ (by_order order (ranked w h order order_is))
  where
    by_part : (part : Ordering) → MatchOrdering part (p < 0) (p ≡ 0) (0 < p) → w ≡ h
        → MatchOrdering part (2 * (w * b + p) < b * u) (2 * (w * b + p) ≡ b * u) (b * u < 2 * (w * b + p))
    by_part Less none same = absurd (omega arith)
    by_part Equal none same = let at : w * b ≡ h * b =
        ap (λ v. v * b) same in omega (arith, rounding_doubled_value w b p, rounding_half_unit b h u e)
    by_part Greater some same = let at : w * b ≡ h * b =
        ap (λ v. v * b) same in omega (arith, rounding_doubled_value w b p, rounding_half_unit b h u e)

    by_order : (order : Ordering) → MatchOrdering order (w < h) (w ≡ h) (h < w)
        → MatchOrdering (ordering_then order part) (2 * (w * b + p) < b * u) (2 * (w * b + p) ≡ b * u)
        (b * u < 2 * (w * b + p))
    by_order Less less = rounding_below_half w p b h u e low less
    by_order Equal same = by_part part (ranked p 0 part part_is) same
    by_order Greater more = rounding_above_half w p b h u e (omega arith) more
