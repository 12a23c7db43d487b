use Rattle.std.proofs.Common.{◌+◌, ◌*◌}
use Rattle.expr_tree.specs.Trees.{factors_syntax, members_syntax, syntax, syntax_of_factors, syntax_of_terms}
use Rattle.expr_tree.specs.Trees.{syntax_of_trees, terms_syntax}
use Rattle.value_sources.proofs.Weights.{weight, weight_factors, weight_members, weight_terms}
use Rattle.units_why.proofs.substitution.+substitute.Given as goal

abbrev pub decreases-substitute_tree : goal.decreases-substitute_tree
decreases-substitute_tree l = 2 * weight (syntax l.tree.now)

abbrev pub decreases-substitute_box : goal.decreases-substitute_box
decreases-substitute_box l = 2 * weight (syntax l.tree.now) + 1

abbrev pub decreases-trees_with : goal.decreases-trees_with
decreases-trees_with l = 2 * weight_members (members_syntax (syntax_of_trees l.trees.now)) + 1

abbrev pub decreases-factors_with : goal.decreases-factors_with
decreases-factors_with l = 2 * weight_factors (factors_syntax (syntax_of_factors l.product.now)) + 1

abbrev pub decreases-terms_with : goal.decreases-terms_with
decreases-terms_with l = 2 * weight_terms (terms_syntax (syntax_of_terms l.sum.now)) + 1
