-- Tokens give at most one tree.
use Rattle.std.proofs.Common.{◌≡◌, ◌∙◌, sym, Some}
use Rattle.expr_tree.specs.Grammar.{OneTreeLaw}
use Rattle.expr_tree.proofs.DerivationSearch.{tree_of_token_list_law}

-- the law that tokens give at most one tree
pub tokens_give_one_tree : OneTreeLaw
tokens_give_one_tree binder ts x y g h =
    let both : Some x ≡ Some y = sym ((tree_of_token_list_law binder ts x).1 g)
    ∙ (tree_of_token_list_law binder ts y).1 h in cc
