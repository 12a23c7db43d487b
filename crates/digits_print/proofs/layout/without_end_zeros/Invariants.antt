use Rattle.digits_print.proofs.EndZeros.{IsCutTo}
use Rattle.digits_print.proofs.layout.without_end_zeros.Given as goal

abbrev pub invariant-loop-end : goal.invariant-loop-end
invariant-loop-end l = IsCutTo l.digits l.end

abbrev pub decreases-loop-end : goal.decreases-loop-end
decreases-loop-end l = l.end
