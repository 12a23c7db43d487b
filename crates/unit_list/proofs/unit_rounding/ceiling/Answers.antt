use Rattle.std.proofs.Common.{◌≡◌, ◌<◌, ◌≤◌, ◌+◌, ◌*◌, ◌/◌, ◌%◌, ◌≤ℤ◌, ℕ, ℤ, pos, negsuc, suc, zero, unsigned_abs}
use Rattle.std.proofs.Common.{arith, refl, ap, ◌∙◌}
use Rattle.std.proofs.lemmas.Int.{ints}
use Rattle.std.proofs.Math.Nat.{div-add-mod, div-eq_of_lt-le, div-zero, mod-lt, zero-mod}
use Rattle.frac128.specs.Floor.{fraction_floor}
use Rattle.frac128.specs.Fraction.{opposite_fraction, whole_fraction}
use Rattle.unit_list.proofs.unit_rounding.ceiling.Goals as goal

-- the quotient of a number that is not a multiple equals that of the number before it
next_whole : (a d : ℕ) → 0 < suc a % d → suc (a / d) ≡ suc a / d + 1
next_whole a zero some = rw (div-zero a, div-zero (suc a)) refl
next_whole a (suc d) some =
    let is : suc d * (suc a / suc d) + suc a % suc d ≡ suc a = div-add-mod (suc a) (suc d) in
    let part : suc a % suc d < suc d = mod-lt (suc a) (omega arith) in
    let same : a / suc d ≡ suc a / suc d =
    div-eq_of_lt-le {k = suc a / suc d} (suc d) (low (suc a / suc d) (suc d) (suc a % suc d) is some)
    (high (suc a / suc d) (suc d) (suc a % suc d) is part) in
    omega arith
  where
    low : (q e r : ℕ) → e * q + r ≡ suc a → 0 < r → q * e ≤ a
    low q e r h k = omega arith

    high : (q e r : ℕ) → e * q + r ≡ suc a → r < e → a < (q + 1) * e
    high q e r h k = omega arith

-- the floor of the negated number, negated
ceiling_is : (z : ℤ) (d : ℕ) → pos 0 ≤ℤ z → 0 < unsigned_abs z % d
    → opposite_fraction (fraction_floor (opposite_fraction (record { num = z; den = d }))) ≡ whole_fraction
    (pos (unsigned_abs z / d + 1))
ceiling_is (pos zero) d natural some = absurd (omega (arith, zero-mod d))
ceiling_is (pos (suc a)) d natural some = ap (λ n. whole_fraction (pos n)) (next_whole a d some)
ceiling_is (negsuc a) d natural some = absurd (omega (arith, ints))

pub returns : goal.returns
returns c =
    c.negate-2.ensures ∙ ap opposite_fraction c.floor.ensures.computed
    ∙ ap (λ x. opposite_fraction (fraction_floor x)) c.negate.ensures
    ∙ ceiling_is c.args.x.now.num c.args.x.now.den c.requires.plain c.requires.part
