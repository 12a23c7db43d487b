use Rattle.std.proofs.Common.{◌≡◌, length}
use Rattle.std.specs.List.{slice_split}
use Rattle.expr_tree.specs.Trees.{syntax_of_trees}
use Rattle.def_entry.specs.EntryReading.{entry_trees, is_entry_semicolon}
use Rattle.def_entry.proofs.Parts.{joined}
use Rattle.def_entry.proofs.list.part_trees.Given as goal

abbrev pub invariant-loop-part : goal.invariant-loop-part
invariant-loop-part l = joined (syntax_of_trees l.trees) (entry_trees (slice_split is_entry_semicolon l.rest))
    ≡ entry_trees (slice_split is_entry_semicolon l.text)

abbrev pub decreases-loop-part : goal.decreases-loop-part
decreases-loop-part l = length l.rest
