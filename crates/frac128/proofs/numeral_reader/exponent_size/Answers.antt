use Rattle.std.proofs.Common.{◌<◌, ◌+◌, ◌-◌, ◌*◌, get_or, sym, arith}
use Rattle.frac128.specs.Decimals.{most_numeral_exponent}
use Rattle.frac128.proofs.DigitRuns.{numeral_exponent_too_wide}
use Rattle.frac128.proofs.numeral_reader.exponent_size.Goals as goal

pub returns-then-number-gt-MOST_EXPONENT : goal.returns-then-number-gt-MOST_EXPONENT
returns-then-number-gt-MOST_EXPONENT c =
    let past : most_numeral_exponent < c.loop-byte.number * 10 + (get_or c.args.bytes.now c.loop-byte.byte-index 0 - 48)
    =
    omega arith in
    let wide = numeral_exponent_too_wide _ _ _ c.loop-byte.invariant c.loop-byte-test.true
    (sym c.if-is_ascii_digit.ensures.value) past in
    λ low. omega (arith, wide, low)
