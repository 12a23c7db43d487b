use Rattle.std.proofs.Common.{ℕ, ℤ, Bool, true, false, ◌<◌, ◌^◌, to_z, of_z, arith, ◌≡◌, ◌≤◌, ◌+ℤ◌, ◌-ℤ◌, Ok, pos}
use Rattle.std.proofs.Common.{rules, ap, ◌∙◌}
use mir.Syntax.{w128}
use Rattle.std.proofs.lemmas.Int.{ints}
use Rattle.std.specs.Int.RustNames.{unsigned_abs}
use Rattle.frac128.specs.Sign.{signed_numerator}
use Rattle.frac128.proofs.Readings.{numeral_prefix-le, numeral_reading_some, numeral_reading_too_long}
use Rattle.frac128.proofs.Readings.{numeral_reading_too_wide, numeral_reading_zero, numeral_split_by_mark}
use Rattle.frac128.proofs.Readings.{numeral_zeros-le}
use Rattle.frac128.proofs.numeral_reader.read_spelled.Goals as goal

pub split_at-requires : goal.split_at-requires
split_at-requires c = rw c.mark_place.ensures (numeral_prefix-le _ _)

pub returns-in_default : goal.returns-in_default
returns-in_default c =
    let split = numeral_split_by_mark _ _ _ _ c.mark_place.ensures c.split_at.ensures.front c.split_at.ensures.back
    c.requires in
    numeral_reading_too_wide _ _ _ split c.in_default.ensures

pub returns-in_default-exponent : goal.returns-in_default-exponent
returns-in_default-exponent c =
    let split = numeral_split_by_mark _ _ _ _ c.mark_place.ensures c.split_at.ensures.front c.split_at.ensures.back
    c.requires in
    numeral_reading_too_long _ _ _ _ _ split c.in-Some.ensures c.in_default-exponent.ensures

pub returns-then-coefficient-eq0 : goal.returns-then-coefficient-eq0
returns-then-coefficient-eq0 c =
    let split = numeral_split_by_mark _ _ _ _ c.mark_place.ensures c.split_at.ensures.front c.split_at.ensures.back
    c.requires in
    ap Ok c.new.ensures
    ∙ numeral_reading_zero _ _ _ _ _ split c.in-Some.ensures c.in-Some-exponent.ensures.0 c.if-coefficient-eq0.true

-- the magnitude of the scale fits 64 bits, since the text is short enough
scale_fits : (s p : ℤ) (size k z n : ℕ) (b : Bool) → s ≡ p -ℤ pos k +ℤ pos z → p ≡ signed_numerator b size → size ≤ 9999
    → k ≤ n → z ≤ n → n < 2 ^ 63 → unsigned_abs s < 2 ^ 64
scale_fits s p size k z n false s_is p_is low k_fits z_fits fits = rw (s_is, p_is) (omega (arith, ints))
scale_fits s p size k z n true s_is p_is low k_fits z_fits fits = rw (s_is, p_is) (omega (arith, ints))

-- the scale is computed without overflow in 128 bits
scale_is : (p : ℤ) (size k z : ℕ) (b : Bool) → p ≡ signed_numerator b size → size ≤ 9999 → k < 2 ^ 64 → z < 2 ^ 64
    → to_z w128 (of_z w128 (to_z w128 (of_z w128 (to_z w128 (of_z w128 p) -ℤ to_z w128 k)) +ℤ to_z w128 z))
    ≡ p -ℤ pos k +ℤ pos z
scale_is p size k z false e low k_fits z_fits = rw e (omega (arith, ints))
scale_is p size k z true e low k_fits z_fits = rw e (omega (arith, ints))

pub new-requires-2-clause-scale : goal.new-requires-2-clause-scale
new-requires-2-clause-scale c =
    let power = c.in-Some-exponent.ensures in
    let scale = scale_is c.in-Some-exponent.power _ c.places.result c.in-Some.zeros _ power.1 power.0 (search rules)
    (search rules) in
    scale_fits _ c.in-Some-exponent.power _ c.places.result c.in-Some.zeros _ _ scale power.1 power.0
    c.places.ensures.within
    (numeral_zeros-le _ _ _ c.in-Some.ensures) c.places.ensures.fits

pub returns : goal.returns
returns c =
    let split = numeral_split_by_mark _ _ _ _ c.mark_place.ensures c.split_at.ensures.front c.split_at.ensures.back
    c.requires in
    let power = c.in-Some-exponent.ensures in
    let scale = scale_is c.in-Some-exponent.power _ c.places.result c.in-Some.zeros _ power.1 power.0 (search rules)
    (search rules) in
    ap Ok (c.new-2.ensures ∙ ap (λ s. record { coefficient = c.in-Some.coefficient; scale = s }) scale)
    ∙ numeral_reading_some _ _ _ _ _ _ _ split c.in-Some.ensures power.0 c.if-coefficient-eq0.false power.1
    c.places.ensures.is
