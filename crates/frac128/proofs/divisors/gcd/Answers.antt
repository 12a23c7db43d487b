use Rattle.std.proofs.Common.{◌∙◌}
use Rattle.frac128.proofs.BinarySteps.{gcd_swap}
use Rattle.frac128.proofs.Euclid.{gcd_some}
use Rattle.frac128.proofs.divisors.gcd.Goals as goal

pub returns-then-a-b-clause-is : goal.returns-then-a-b-clause-is
returns-then-a-b-clause-is c = c.ordered_gcd.ensures ∙ gcd_swap _ _

pub returns-then-a-b-clause-some : goal.returns-then-a-b-clause-some
returns-then-a-b-clause-some c = λ some. rw (c.ordered_gcd.ensures ∙ gcd_swap _ _) (gcd_some _ _ some)

pub returns-else-a-b-clause-some : goal.returns-else-a-b-clause-some
returns-else-a-b-clause-some c = λ some. rw c.ordered_gcd-else-a-b.ensures (gcd_some _ _ some)
