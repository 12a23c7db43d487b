use Rattle.std.proofs.Common.{◌≡◌, ◌<◌, ◌<ℤ◌, ◌≤◌, ◌^◌, ℕ, ℤ, pos, negsuc, unsigned_abs, int_lt, SFits, of_z, to_z}
use Rattle.std.proofs.Common.{arith, sym, ap, ◌∙◌}
use mir.Syntax.{w128}
use Rattle.std.proofs.lemmas.Int.{ints, to_z-of_z}
use Rattle.frac128.specs.Fraction.{largest_fraction_part}
use Rattle.frac128.specs.Sign.{signed_numerator}
use Rattle.frac128.specs.Steps.{ratio}
use Rattle.frac128.specs.Sums.{fraction_sum_over}
use Rattle.frac128.proofs.Signs.{numerator_is_signed}
use Rattle.frac128.proofs.Sums.{fraction_sum_over-ratio}
use Rattle.frac128.proofs.fraction.Frac.sum_over.Goals as goal

-- a number of 128 bits other than the least one is in range
not_least : (z : ℤ) → SFits w128 z → (of_z w128 z ≡ 2 ^ 127 → ⊥) → unsigned_abs z ≤ largest_fraction_part
not_least (pos n) fits other = let h = fits.sfits in omega arith
not_least (negsuc n) fits other = let h = fits.sfits in omega arith

-- a ratio with a denominator above 0, computed from its sign and magnitudes
ratio_over : (sum m : ℤ) (top bottom : ℕ) → top ≡ unsigned_abs sum → bottom ≡ unsigned_abs m → pos 0 <ℤ m
    → unsigned_abs m ≤ largest_fraction_part
    → unsigned_abs sum ≤ largest_fraction_part
    → ratio (signed_numerator (int_lt sum (pos 0)) top) (pos bottom) ≡ fraction_sum_over (unsigned_abs m) sum
ratio_over sum (pos m) top bottom p q some low h =
    ap (λ k. ratio (signed_numerator (int_lt sum (pos 0)) k) (pos bottom)) p
    ∙ ap (λ k. ratio (signed_numerator (int_lt sum (pos 0)) (unsigned_abs sum)) (pos k)) q
    ∙ ap (λ z. ratio z (pos m)) (sym (numerator_is_signed sum))
    ∙ fraction_sum_over-ratio m sum (omega (arith, ints)) low h
ratio_over sum (negsuc m) top bottom p q some low h = absurd (omega (arith, ints))

-- a number above 0 has a magnitude above 0
some_abs : (m : ℤ) (n : ℕ) → pos 0 <ℤ m → n ≡ unsigned_abs m → 0 < n
some_abs (pos m) n some e = omega (arith, ints)
some_abs (negsuc m) n some e = absurd (omega (arith, ints))

pub reduce_by-requires-clause-some : goal.reduce_by-requires-clause-some
reduce_by-requires-clause-some c =
    let fits_multiple : SFits w128 c.args.multiple = c.ranges.multiple in
    some_abs _ _ c.requires.some (simp to_z-of_z at c.unsigned_abs-bottom.ensures.value)

pub reduce_by-requires-clause-divisor : goal.reduce_by-requires-clause-divisor
reduce_by-requires-clause-divisor c =
    let fits_left : SFits w128 c.args.left = c.ranges.left in
    let fits_right : SFits w128 c.args.right = c.ranges.right in
    let fits_multiple : SFits w128 c.args.multiple = c.ranges.multiple in
    let facts = simp to_z-of_z at c.in-Some.ensures in
    let fits_sum : SFits w128 c.in-Some.sum = rw facts.1 facts.0 in
    let top = simp to_z-of_z at c.unsigned_abs-top.ensures.value in
    let bottom = simp to_z-of_z at c.unsigned_abs-bottom.ensures.value in
    c.gcd.ensures.is ∙ rw (top, facts.1, bottom) c.requires.shared

pub returns-in-Some : goal.returns-in-Some
returns-in-Some c =
    let fits_left : SFits w128 c.args.left = c.ranges.left in
    let fits_right : SFits w128 c.args.right = c.ranges.right in
    let fits_multiple : SFits w128 c.args.multiple = c.ranges.multiple in
    let facts = simp to_z-of_z at c.in-Some.ensures in
    let fits_sum : SFits w128 c.in-Some.sum = rw facts.1 facts.0 in
    let top = simp to_z-of_z at c.unsigned_abs-top.ensures.value in
    let bottom = simp to_z-of_z at c.unsigned_abs-bottom.ensures.value in
    let back : to_z w128 (of_z w128 c.in-Some.sum) ≡ c.in-Some.sum = simp to_z-of_z in
    c.reduce_by.ensures
    ∙ ap (λ z. ratio (signed_numerator (int_lt z (pos 0)) c.unsigned_abs-top.result) (pos c.unsigned_abs-bottom.result))
    back
    ∙ ratio_over c.in-Some.sum c.args.multiple _ _ top bottom c.requires.some c.requires.multiple
    (not_least _ fits_sum c.if-sum.true)
    ∙ ap (fraction_sum_over (unsigned_abs c.args.multiple)) facts.1
