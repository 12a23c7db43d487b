use Rattle.std.proofs.Common.{◌≡◌, ◌++◌, ◌+◌, ◌*◌, drop, map}
use Rattle.expr_tree.specs.Trees.{factor_syntax, factors_syntax, members_syntax, syntax, syntax_of_factors}
use Rattle.expr_tree.specs.Trees.{syntax_of_terms, term_syntax, terms_syntax, syntax_of_trees}
use Rattle.value_sources.specs.Calls.{calls_in_factors, calls_in_members, calls_in_terms}
use Rattle.value_sources.proofs.Weights.{weight, weight_factors, weight_members, weight_terms}
use Rattle.value_sources.proofs.call_list.+put.Given as goal

abbrev pub decreases-put_calls : goal.decreases-put_calls
decreases-put_calls l = 2 * weight (syntax l.tree.now)

abbrev pub decreases-put_member_calls : goal.decreases-put_member_calls
decreases-put_member_calls l = 2 * weight_members (members_syntax (syntax_of_trees l.trees.now)) + 1

abbrev pub decreases-put_factor_calls : goal.decreases-put_factor_calls
decreases-put_factor_calls l = 2 * weight_factors (factors_syntax (syntax_of_factors l.product.now)) + 1

abbrev pub decreases-put_term_calls : goal.decreases-put_term_calls
decreases-put_term_calls l = 2 * weight_terms (terms_syntax (syntax_of_terms l.sum.now)) + 1

abbrev pub invariant-put_member_calls-loop-tree : goal.invariant-put_member_calls-loop-tree
invariant-put_member_calls-loop-tree l =
    map syntax l.calls.items ++ calls_in_members (members_syntax (map syntax (drop l.tree-index l.tree-items)))
    ≡ map syntax l.initial.calls.items ++ calls_in_members (members_syntax (map syntax l.tree-items))

abbrev pub invariant-put_factor_calls-loop-factor : goal.invariant-put_factor_calls-loop-factor
invariant-put_factor_calls-loop-factor l =
    map syntax l.calls.items ++ calls_in_factors
    (factors_syntax (map factor_syntax (drop l.factor-index l.factor-items)))
    ≡ map syntax l.initial.calls.items ++ calls_in_factors (factors_syntax (map factor_syntax l.factor-items))

abbrev pub invariant-put_term_calls-loop-term : goal.invariant-put_term_calls-loop-term
invariant-put_term_calls-loop-term l =
    map syntax l.calls.items ++ calls_in_terms (terms_syntax (map term_syntax (drop l.term-index l.term-items)))
    ≡ map syntax l.initial.calls.items ++ calls_in_terms (terms_syntax (map term_syntax l.term-items))
