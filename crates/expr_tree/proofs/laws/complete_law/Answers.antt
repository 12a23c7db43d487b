use Rattle.expr_tree.proofs.Derivations.{fitting_tokens_give_tree}
use Rattle.expr_tree.proofs.Places.{tokens_fit_exactly}
use Rattle.expr_tree.proofs.SpelledTokens.{tokens_giving_tree_fit}
use Rattle.expr_tree.proofs.laws.complete_law.Goals as goal

pub returns : goal.returns
returns c = λ binder ts. (
  λ g. (tokens_fit_exactly ts).0 (tokens_giving_tree_fit binder ts g.0 g.1),
  λ m. fitting_tokens_give_tree binder ts ((tokens_fit_exactly ts).1 m),
)
