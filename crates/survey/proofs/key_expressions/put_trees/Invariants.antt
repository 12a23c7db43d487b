use Rattle.std.proofs.Common.{◌≡◌, ◌++◌, drop}
use Rattle.reply.specs.Calls.{inquiry_syntaxes}
use Rattle.survey.proofs.key_expressions.put_trees.Given as goal

-- the trees and those left are all the trees
abbrev pub invariant-loop-tree : goal.invariant-loop-tree
invariant-loop-tree l =
    inquiry_syntaxes l.trees.items ++ inquiry_syntaxes (drop l.tree-index l.further)
    ≡ inquiry_syntaxes l.initial.trees.items ++ inquiry_syntaxes l.further
