use Rattle.std.proofs.Common.{length}
use Rattle.test_calls.proofs.lines.answers.put_answers.Given as goal

abbrev pub invariant-loop-line : goal.invariant-loop-line
invariant-loop-line g l = g.A.Answers.is_ready l.answers

abbrev pub decreases-loop-line : goal.decreases-loop-line
decreases-loop-line g l = length l.rest
