use Rattle.expr_tree.proofs.DerivationSearch.{tree_of_token_list_law}
use Rattle.expr_tree.proofs.laws.reading_law.Goals as goal

pub returns : goal.returns
returns c = tree_of_token_list_law
