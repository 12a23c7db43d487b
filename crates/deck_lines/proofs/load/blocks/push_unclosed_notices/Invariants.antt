use Rattle.std.proofs.Common.{◌≡◌, ◌++◌, drop, map}
use Rattle.deck_lines.specs.Excerpts.{unclosed_notice}
use Rattle.deck_lines.proofs.load.blocks.push_unclosed_notices.Given as goal

abbrev pub invariant-loop-block : goal.invariant-loop-block
invariant-loop-block l = record {
  store : l.draft.store ≡ l.initial.draft.store;
  notices : l.draft.notices ++ map (unclosed_notice l.name) (drop l.block-index l.blocks)
      ≡ l.initial.draft.notices ++ map (unclosed_notice l.name) l.blocks;
}
