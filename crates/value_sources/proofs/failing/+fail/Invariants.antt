use Rattle.std.proofs.Common.{◌≡◌, ◌+◌, ◌*◌, None, drop, map}
use Rattle.deck.specs.Tables.{table_of_deck}
use Rattle.expr_tree.specs.Trees.{factor_syntax, factors_syntax, members_syntax, syntax, syntax_of_factors}
use Rattle.expr_tree.specs.Trees.{syntax_of_terms, term_syntax, terms_syntax, syntax_of_trees}
use Rattle.value_sources.specs.FailedSteps as spec
use Rattle.value_sources.proofs.Weights.{weight, weight_factors, weight_members, weight_terms}
use Rattle.value_sources.proofs.failing.+fail.Given as goal

abbrev pub decreases-failed_step : goal.decreases-failed_step
decreases-failed_step g l = 3 * weight (syntax l.tree.now)

abbrev pub decreases-reach : goal.decreases-reach
decreases-reach g l = 3 * weight (syntax l.tree.now) + 1

abbrev pub decreases-called_step : goal.decreases-called_step
decreases-called_step g l = 3 * weight (syntax l.operand.now) + 2

abbrev pub decreases-inverted_step : goal.decreases-inverted_step
decreases-inverted_step g l = 3 * weight (syntax l.operand.now) + 2

abbrev pub decreases-product_step : goal.decreases-product_step
decreases-product_step g l = 3 * weight (syntax l.operand.now) + 2

abbrev pub decreases-power_step : goal.decreases-power_step
decreases-power_step g l = 3 * (weight (syntax l.base.now) + weight (syntax l.exponent.now)) + 2

abbrev pub decreases-member_step : goal.decreases-member_step
decreases-member_step g l = 3 * weight_members (members_syntax (syntax_of_trees l.trees.now)) + 2

abbrev pub decreases-factor_step : goal.decreases-factor_step
decreases-factor_step g l = 3 * weight_factors (factors_syntax (syntax_of_factors l.product.now)) + 2

abbrev pub decreases-term_step : goal.decreases-term_step
decreases-term_step g l = 3 * weight_terms (terms_syntax (syntax_of_terms l.sum.now)) + 2

abbrev pub invariant-member_step-loop-tree : goal.invariant-member_step-loop-tree
invariant-member_step-loop-tree g l =
    let t = table_of_deck l.initial.live.deck in
    (l.live.deck ≡ l.initial.live.deck)
    × (spec.failed_members (spec.is_source_function_word t) (spec.source_value_of_tree t) l.running
    (members_syntax (map syntax (drop l.tree-index l.tree-items)))
    ≡ spec.failed_members (spec.is_source_function_word t) (spec.source_value_of_tree t) None
    (members_syntax (map syntax l.tree-items)))

abbrev pub invariant-factor_step-loop-factor : goal.invariant-factor_step-loop-factor
invariant-factor_step-loop-factor g l =
    let t = table_of_deck l.initial.live.deck in
    (l.live.deck ≡ l.initial.live.deck)
    × (spec.failed_factors (spec.is_source_function_word t) (spec.source_value_of_tree t) l.running
    (factors_syntax (map factor_syntax (drop l.factor-index l.factor-items)))
    ≡ spec.failed_factors (spec.is_source_function_word t) (spec.source_value_of_tree t) None
    (factors_syntax (map factor_syntax l.factor-items)))

abbrev pub invariant-term_step-loop-term : goal.invariant-term_step-loop-term
invariant-term_step-loop-term g l =
    let t = table_of_deck l.initial.live.deck in
    (l.live.deck ≡ l.initial.live.deck)
    × (spec.failed_terms (spec.is_source_function_word t) (spec.source_value_of_tree t) l.running
    (terms_syntax (map term_syntax (drop l.term-index l.term-items)))
    ≡ spec.failed_terms (spec.is_source_function_word t) (spec.source_value_of_tree t) None
    (terms_syntax (map term_syntax l.term-items)))
