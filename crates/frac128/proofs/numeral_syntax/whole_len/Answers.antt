use Rattle.std.proofs.Common.{sym}
use Rattle.frac128.proofs.DigitFronts.{numeral_digits_end, numeral_digits_more, numeral_digits_start}
use Rattle.frac128.proofs.numeral_syntax.whole_len.Goals as goal

pub loop-i-init : goal.loop-i-init
loop-i-init c = numeral_digits_start _

pub returns-else-goes_on-clause-len : goal.returns-else-goes_on-clause-len
returns-else-goes_on-clause-len c =
    numeral_digits_end _ _ c.loop-i.invariant c.loop-i-test.true (sym c.if-not-is_ascii_digit.ensures.value)
    (sym c.if-goes_on.ensures)

pub loop-i-preserved : goal.loop-i-preserved
loop-i-preserved c =
    numeral_digits_more _ _ c.loop-i.invariant c.loop-i-test.true (sym c.if-not-is_ascii_digit.ensures.value)
