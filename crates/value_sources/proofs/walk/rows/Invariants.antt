use Rattle.std.proofs.Common.{◌^◌, ◌-◌, length}
use Rattle.expr_tree.specs.Trees.{syntax}
use Rattle.expr_tree.specs.Words.{words_in}
use Rattle.value_sources.specs.StoredMentions.{source_rows_in}
use Rattle.value_sources.specs.Walks.{IsSourceWalk}
use Rattle.value_sources.proofs.walk.rows.Given as goal

abbrev pub invariant-loop-rows : goal.invariant-loop-rows
invariant-loop-rows l = IsSourceWalk l.deck (words_in (syntax l.tree)) (source_rows_in l.deck l.rows.items) l.walk

abbrev pub decreases-loop-rows : goal.decreases-loop-rows
decreases-loop-rows l = 2 ^ 64 - length l.rows.items
