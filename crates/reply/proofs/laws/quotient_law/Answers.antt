use Rattle.reply.proofs.ExactDivision.{conversion-quotient-law}
use Rattle.reply.proofs.laws.quotient_law.Goals as goal

pub returns : goal.returns
returns c = conversion-quotient-law c.reduced_law.ensures
