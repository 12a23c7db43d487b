use Rattle.std.proofs.Common.{◌+◌, ◌++◌, ◌∙◌, List, ap, append_assoc, drop, map, sym}
use Rattle.expr_tree.specs.Trees.{members_syntax, syntax}
use Rattle.expr_tree.specs.Words.{words_in, words_in_members}
use Rattle.expr_tree.specs.WordUses.{WordUse}
use Rattle.expr_tree.proofs.Says.{tree_member_words_at}
use Rattle.expr_tree.proofs.word_collection.+put.Goals as goal

pub put_members-loop-tree-preserved : goal.put_members-loop-tree-preserved
put_members-loop-tree-preserved t c =
    let trees = c.deref-tree-items.result.now in
    let left : List WordUse =
    words_in_members (members_syntax (map syntax (drop (c.loop-tree.tree-index + 1) trees))) in
    ap (λ words. words ++ left) c.in_ok-put_words.ensures
    ∙ append_assoc c.loop-tree.words (words_in (syntax c.tree-item.result)) left
    ∙ ap (λ words. c.loop-tree.words ++ words)
    (ap (λ tree. words_in (syntax tree) ++ left) c.tree-item.is
    ∙ sym (tree_member_words_at trees c.loop-tree.tree-index _ c.loop-tree-test.true))
    ∙ c.loop-tree.invariant
