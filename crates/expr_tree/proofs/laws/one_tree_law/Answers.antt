use Rattle.expr_tree.proofs.OneTree as laws
use Rattle.expr_tree.proofs.laws.one_tree_law.Goals as goal

pub returns : goal.returns
returns c = laws.tokens_give_one_tree
