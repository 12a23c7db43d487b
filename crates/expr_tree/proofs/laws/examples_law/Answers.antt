use Rattle.std.proofs.Common.{refl}
use Rattle.expr_tree.specs.TokenReading.{tree_of_token_list}
use Rattle.expr_tree.proofs.laws.examples_law.Goals as goal

pub returns : goal.returns
unfolding tree_of_token_list
returns c = (refl, refl, refl, refl, refl, refl, refl, refl, refl, refl, refl)
