use Rattle.std.proofs.Common.{◌+◌, ◌*◌}
use Rattle.expr_tree.specs.Trees.{factors_syntax, members_syntax, syntax, syntax_of_factors, syntax_of_terms}
use Rattle.expr_tree.specs.Trees.{syntax_of_trees, terms_syntax}
use Rattle.test_calls.proofs.Sizes.{factors_size, members_size, size, terms_size}
use Rattle.test_calls.proofs.notation.+put.Given as goal

abbrev pub decreases-put_tree : goal.decreases-put_tree
decreases-put_tree l = 2 * size (syntax l.tree.now)

abbrev pub decreases-put_last : goal.decreases-put_last
decreases-put_last l = 2 * size (syntax l.tree.now) + 1

abbrev pub decreases-put_members : goal.decreases-put_members
decreases-put_members l = 2 * members_size (members_syntax (syntax_of_trees l.members.now)) + 1

abbrev pub decreases-put_factors : goal.decreases-put_factors
decreases-put_factors l = 2 * factors_size (factors_syntax (syntax_of_factors l.members.now)) + 1

abbrev pub decreases-put_terms : goal.decreases-put_terms
decreases-put_terms l = 2 * terms_size (terms_syntax (syntax_of_terms l.members.now)) + 1
