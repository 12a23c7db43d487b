use Rattle.frac128.proofs.DigitRuns.{IsCollected}
use Rattle.frac128.proofs.numeral_reader.significant.Given as goal

abbrev pub invariant-loop-byte : goal.invariant-loop-byte
invariant-loop-byte l = IsCollected l.bytes l.byte-index l.number l.zeros
