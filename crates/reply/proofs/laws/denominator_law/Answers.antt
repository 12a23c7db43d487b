use Rattle.reply.proofs.Denominators.{denominator-law}
use Rattle.reply.proofs.laws.denominator_law.Goals as goal

pub returns : goal.returns
returns c = denominator-law c.reduced_law.ensures c.tables_are_of_lines.ensures
