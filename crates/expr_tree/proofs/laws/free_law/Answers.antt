use Rattle.std.proofs.Common.{None}
use Rattle.expr_tree.specs.Lexemes.{tokens}
use Rattle.expr_tree.proofs.Free.{tokens-give-argument-free-tree}
use Rattle.expr_tree.proofs.ParsedTexts.{parsed_law}
use Rattle.expr_tree.proofs.laws.free_law.Goals as goal

pub returns : goal.returns
returns c = λ text e h. tokens-give-argument-free-tree (tokens text) e (((parsed_law None text).0 e).0 h).1
