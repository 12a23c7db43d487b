use Rattle.live_table.proofs.GatheredNumbers.{IsGathering}
use Rattle.live_table.proofs.worklist.Worklist.put_all.Given as goal

abbrev pub invariant-loop-n : goal.invariant-loop-n
invariant-loop-n l = IsGathering l.fn.self l.self l.numbers l.n-index
