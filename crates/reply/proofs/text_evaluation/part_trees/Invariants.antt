use Rattle.std.proofs.Common.{◌≡◌, ◌+◌, ℕ, List, length}
use Rattle.std.specs.Prelude.{Option, Some, None}
use Rattle.std.specs.Option.{option_copied}
use Rattle.reply.specs.Calls.{inquiry_syntaxes}
use Rattle.reply.specs.Targets.{conversion_target_parts, conversion_target_parts_after_cut}
use Rattle.reply.specs.Trees.{inquiry_trees}
use Rattle.reply.proofs.Fronts.{with_front}
use Rattle.reply.proofs.text_evaluation.part_trees.Given as goal

-- the rest of the text is shorter after each turn
abbrev left : Option (List ℕ) → ℕ
left None = 0
left (Some text) = length text + 1

abbrev pub invariant-loop-rest : goal.invariant-loop-rest
invariant-loop-rest l =
    with_front (inquiry_syntaxes l.trees.items)
    (inquiry_trees (conversion_target_parts_after_cut (option_copied l.rest))) ≡ inquiry_trees
    (conversion_target_parts l.list)

abbrev pub decreases-loop-rest : goal.decreases-loop-rest
decreases-loop-rest l = left (option_copied l.rest)
