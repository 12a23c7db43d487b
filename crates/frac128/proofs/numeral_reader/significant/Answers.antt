use Rattle.std.proofs.Common.{sym}
use Rattle.frac128.proofs.DigitRuns.{collected_numeral_complete, collected_numeral_too_wide}
use Rattle.frac128.proofs.numeral_reader.significant.Goals as goal

pub returns-in_err-number : goal.returns-in_err-number
returns-in_err-number c =
    rw c.from_residual.ensures
    (sym (collected_numeral_too_wide _ _ _ _ c.loop-byte.invariant c.loop-byte-test.true c.if-byte-eq48.false
    (sym c.if-is_ascii_digit.ensures.value) c.in_err-number.ensures))

pub returns : goal.returns
returns c = sym (collected_numeral_complete _ _ _ _ c.loop-byte.invariant c.loop-byte-test.false)
