use Rattle.expr_tree.proofs.Views.{syntax_view_law}
use Rattle.expr_tree.proofs.laws.view_law.Goals as goal

pub returns : goal.returns
returns c = syntax_view_law
