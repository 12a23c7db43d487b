use Rattle.std.proofs.Common.{arith}
use Rattle.digits_print.proofs.EndZeros.{cut_end_digits, cut_more_end_digits}
use Rattle.digits_print.proofs.layout.without_end_zeros.Goals.{then-loop-end-test+else-digits-end-eq48}
use Rattle.digits_print.proofs.layout.without_end_zeros.Goals.{else-loop-end-test}
use Rattle.digits_print.proofs.layout.without_end_zeros.Goals as goal

pub loop-end-preserved : goal.loop-end-preserved
loop-end-preserved c = cut_more_end_digits _ _ (omega arith) c.loop-end.invariant c.if-digits-end-eq48.true

pub returns : goal.returns
returns c = cut_end_digits _ _ c.loop-end.invariant (λ some. elim c.loop-end-test.branch [
  | then-loop-end-test+else-digits-end-eq48 w ↦ w.if-digits-end-eq48.false
  | else-loop-end-test w ↦ λ zero. absurd (let none = w.loop-end-test.false in omega arith)
])
