use Rattle.std.proofs.Common.{◌≡◌, map, take}
use Rattle.expr_tree.specs.Trees.{factor_syntax, syntax, term_syntax}
use Rattle.expr_tree.proofs.tree.+copy.Given as goal

abbrev pub invariant-Trees::copy-loop-tree : goal.invariant-Trees::copy-loop-tree
invariant-Trees::copy-loop-tree l = map syntax l.items.items ≡ map syntax (take l.tree-index l.tree-items)

abbrev pub invariant-Factors::copy-loop-member : goal.invariant-Factors::copy-loop-member
invariant-Factors::copy-loop-member l = map factor_syntax l.items.items ≡ map factor_syntax
    (take l.member-index l.member-items)

abbrev pub invariant-Terms::copy-loop-member : goal.invariant-Terms::copy-loop-member
invariant-Terms::copy-loop-member l = map term_syntax l.items.items ≡ map term_syntax
    (take l.member-index l.member-items)
