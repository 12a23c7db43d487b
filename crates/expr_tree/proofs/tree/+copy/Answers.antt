use Rattle.std.proofs.Common.{◌∙◌, ap, map}
use Rattle.expr_tree.specs.Trees.{syntax}
use Rattle.expr_tree.proofs.Says.{syntax-trees-push}
use Rattle.expr_tree.proofs.tree.+copy.Goals as goal

pub Trees::copy-loop-tree-preserved : goal.Trees::copy-loop-tree-preserved
Trees::copy-loop-tree-preserved t c = ap (map syntax) c.in_ok-push.ensures.items
    ∙ syntax-trees-push c.deref-tree-items.result.now c.loop-tree.tree-index _ c.in_ok-copy.field-0
    c.loop-tree.items.items c.loop-tree-test.true c.loop-tree.invariant
    (c.in_ok-copy.ensures ∙ ap syntax c.tree-item.is)
