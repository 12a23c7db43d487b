use Rattle.std.specs.Option.{option_copied}
use Rattle.expr_tree.proofs.Whole.{whole_sum_is_tree_of_tokens}
use Rattle.expr_tree.proofs.descent.tree_of_sum.Goals as goal

pub returns : goal.returns
returns c = whole_sum_is_tree_of_tokens (option_copied c.args.binder) c.args.tokens.now _ _ c.in_ok-tree.ensures.0
