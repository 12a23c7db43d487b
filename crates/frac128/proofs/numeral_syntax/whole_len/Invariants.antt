use Rattle.frac128.proofs.DigitFronts.{IsDigitsTo}
use Rattle.frac128.proofs.numeral_syntax.whole_len.Given as goal

abbrev pub invariant-loop-i : goal.invariant-loop-i
invariant-loop-i l = IsDigitsTo l.bytes l.i
