use Rattle.std.proofs.Common.{ℕ, to_z, ◌<◌, ◌^◌, ◌≡◌, ◌+ℤ◌, ◌-ℤ◌, Ok, pos, arith, rules, ap, refl, ◌∙◌}
use mir.Syntax.{w128}
use Rattle.std.proofs.lemmas.Int.{ints}
use Rattle.frac128.proofs.DigitFronts.{numeral_digits_are_mantissa, numeral_digits_have_no_places}
use Rattle.frac128.proofs.Readings.{numeral_reading_some, numeral_reading_too_wide, numeral_reading_zero}
use Rattle.frac128.proofs.numeral_reader.read_digits.Goals as goal

pub returns-in_default : goal.returns-in_default
returns-in_default c =
    numeral_reading_too_wide _ _ _ (numeral_digits_are_mantissa c.args.bytes.now c.requires.some c.requires.digits)
    c.in_default.ensures

pub returns-then-coefficient-eq0 : goal.returns-then-coefficient-eq0
returns-then-coefficient-eq0 c =
    ap Ok c.new.ensures
    ∙ numeral_reading_zero _ _ _ _ _ (numeral_digits_are_mantissa c.args.bytes.now c.requires.some c.requires.digits)
    c.in-Some.ensures
    (omega arith) c.if-coefficient-eq0.true

-- the scale of digits alone is the number of zeros at their end
scale_is : (z : ℕ) → z < 2 ^ 64 → to_z w128 z ≡ pos 0 -ℤ pos 0 +ℤ pos z
scale_is z fits = omega (arith, ints)

pub returns : goal.returns
returns c =
    let scale = scale_is c.in-Some.zeros (search rules) in
    ap Ok (c.new-2.ensures ∙ ap (λ s. record { coefficient = c.in-Some.coefficient; scale = s }) scale)
    ∙ numeral_reading_some _ _ _ _ _ 0 (pos 0)
    (numeral_digits_are_mantissa c.args.bytes.now c.requires.some c.requires.digits)
    c.in-Some.ensures (omega arith) c.if-coefficient-eq0.false refl
    (numeral_digits_have_no_places c.args.bytes.now c.requires.digits)
