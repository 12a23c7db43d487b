use Rattle.frac128.proofs.DigitRuns.{IsCounted}
use Rattle.frac128.proofs.numeral_reader.exponent_size.Given as goal

abbrev pub invariant-loop-byte : goal.invariant-loop-byte
invariant-loop-byte l = IsCounted l.bytes l.byte-index l.number
