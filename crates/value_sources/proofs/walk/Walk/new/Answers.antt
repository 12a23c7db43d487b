use Rattle.std.proofs.Common.{[], refl}
use Rattle.expr_tree.specs.Trees.{syntax}
use Rattle.expr_tree.specs.Words.{words_in}
use Rattle.value_sources.specs.StoredMentions.{placed_mention_list}
use Rattle.value_sources.proofs.Walking.{source_rows_underway_start}
use Rattle.value_sources.proofs.walk.Walk.new.Goals as goal

pub returns : goal.returns
returns c = record {
  marked = c.in_ok-marks.ensures;
  underway = source_rows_underway_start c.targets_are_present.ensures c.args.deck.now
      (words_in (syntax c.args.tree.now)) []
      (placed_mention_list c.args.deck.now c.in_ok-pending.pending.items) refl c.in_ok-pending.ensures;
}
