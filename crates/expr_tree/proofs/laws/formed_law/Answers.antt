use Rattle.expr_tree.specs.Lexemes.{tokens}
use Rattle.expr_tree.proofs.WellFormedTrees.{given-tree-is-formed}
use Rattle.expr_tree.proofs.ParsedTexts.{parsed_law}
use Rattle.expr_tree.proofs.laws.formed_law.Goals as goal

pub returns : goal.returns
returns c = λ binder text e h. given-tree-is-formed binder (tokens text) e (((parsed_law binder text).0 e).0 h).1
