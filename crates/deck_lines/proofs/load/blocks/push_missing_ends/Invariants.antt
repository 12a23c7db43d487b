use Rattle.std.proofs.Common.{◌≡◌, [], false, map, reverse, vec_len}
use Rattle.deck_lines.specs.Excerpts.{missing_block_end}
use Rattle.deck_lines.specs.Limits.{pass_store_limit}
use Rattle.deck_lines.specs.Loads.{ExtendsStore, draft_with_excerpt}
use Rattle.deck_lines.proofs.load.blocks.push_missing_ends.Given as goal

abbrev pub invariant-loop-block : goal.invariant-loop-block
invariant-loop-block l = record {
  put : draft_with_excerpt l.draft (record { lines = map missing_block_end (reverse l.blocks.items); notices = [] })
      ≡ draft_with_excerpt l.initial.draft
      (record { lines = map missing_block_end (reverse l.initial.blocks.items); notices = [] });
  extends : ExtendsStore l.initial.draft.store l.draft.store;
  within : pass_store_limit l.draft.store.lines ≡ false;
}

abbrev pub decreases-loop-block : goal.decreases-loop-block
decreases-loop-block l = vec_len l.blocks
