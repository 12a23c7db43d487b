use Rattle.expr_tree.proofs.ParsedTexts as texts
use Rattle.expr_tree.proofs.laws.parsed_law.Goals as goal

pub returns : goal.returns
returns c = texts.parsed_law
