use Rattle.frac128.proofs.StageRuns.{IsReadTo}
use Rattle.frac128.proofs.numeral_syntax.staged_len.Given as goal

abbrev pub invariant-loop-i : goal.invariant-loop-i
invariant-loop-i l = IsReadTo l.bytes l.i l.stage l.len
