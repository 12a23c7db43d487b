use Rattle.std.proofs.Common.{◌+◌, ◌-◌, ◌*◌, ◌<◌, ◌≤◌, length}
use Rattle.std.specs.Option.{option_copied}
use Rattle.expr_tree.specs.Front.{tokens_from}
use Rattle.expr_tree.specs.Trees.{syntax_of_factors, syntax_of_terms, syntax_of_trees}
use Rattle.expr_tree.proofs.Steps.{FactorsRead, MembersRead, TermsRead}
use Rattle.expr_tree.proofs.descent.+rules.Given as goal

-- each call continues at a later token, or at the same one with a rule that binds tighter

abbrev pub decreases-sum_at : goal.decreases-sum_at
decreases-sum_at l = 8 * (length l.tokens.now - l.at) + 6

abbrev pub decreases-product_at : goal.decreases-product_at
decreases-product_at l = 8 * (length l.tokens.now - l.at) + 5

abbrev pub decreases-juxtaposition_at : goal.decreases-juxtaposition_at
decreases-juxtaposition_at l = 8 * (length l.tokens.now - l.at) + 4

abbrev pub decreases-powers_at : goal.decreases-powers_at
decreases-powers_at l = 8 * (length l.tokens.now - l.at) + 3

abbrev pub decreases-power_at : goal.decreases-power_at
decreases-power_at l = 8 * (length l.tokens.now - l.at) + 2

abbrev pub decreases-exponent_at : goal.decreases-exponent_at
decreases-exponent_at l = 8 * (length l.tokens.now - l.at) + 3

abbrev pub decreases-atom_at : goal.decreases-atom_at
decreases-atom_at l = 8 * (length l.tokens.now - l.at) + 1

abbrev pub decreases-inverse_at : goal.decreases-inverse_at
decreases-inverse_at l = 8 * (length l.tokens.now - l.at) + 7

abbrev pub decreases-closed_sum_at : goal.decreases-closed_sum_at
decreases-closed_sum_at l = 8 * (length l.tokens.now - l.at) + 7

abbrev pub invariant-sum_at-loop-sign : goal.invariant-sum_at-loop-sign
invariant-sum_at-loop-sign l = record {
  read : TermsRead (option_copied l.binder) l.opened (tokens_from l.tokens l.at) (tokens_from l.tokens l.next)
      (syntax_of_terms l.terms);
  moved : l.at < l.next;
  within : l.next ≤ length l.tokens;
}

abbrev pub decreases-sum_at-loop-sign : goal.decreases-sum_at-loop-sign
decreases-sum_at-loop-sign l = length l.tokens - l.next

abbrev pub invariant-product_at-loop-scale : goal.invariant-product_at-loop-scale
invariant-product_at-loop-scale l = record {
  read : FactorsRead (option_copied l.binder) l.opened (tokens_from l.tokens l.at) (tokens_from l.tokens l.next)
      (syntax_of_factors l.factors);
  moved : l.at < l.next;
  within : l.next ≤ length l.tokens;
}

abbrev pub decreases-product_at-loop-scale : goal.decreases-product_at-loop-scale
decreases-product_at-loop-scale l = length l.tokens - l.next

abbrev pub invariant-powers_at-loop-alloc : goal.invariant-powers_at-loop-alloc
invariant-powers_at-loop-alloc l = record {
  read : MembersRead (option_copied l.binder) l.opened (tokens_from l.tokens l.at) (tokens_from l.tokens l.next)
      (syntax_of_trees l.members);
  moved : l.at < l.next;
  within : l.next ≤ length l.tokens;
}

abbrev pub decreases-powers_at-loop-alloc : goal.decreases-powers_at-loop-alloc
decreases-powers_at-loop-alloc l = length l.tokens - l.next
