use Rattle.std.proofs.Common.{◌≡◌, ◌+◌, [], drop, reverse}
use Rattle.deck_lines.specs.ClosedBlocks.{blocks_after}
use Rattle.deck_lines.specs.Limits.{most_store_bytes, stored_text_len}
use Rattle.deck_lines.specs.Origins.{exchanged_store_lines}
use Rattle.deck_lines.proofs.store.exchangeable.are_closed_and_small.Given as goal

abbrev pub invariant-loop-place : goal.invariant-loop-place
invariant-loop-place l = record {
  closed : blocks_after (reverse l.endings.items) (drop l.place (exchanged_store_lines l.at l.cut l.put l.store.lines))
      ≡ blocks_after [] (exchanged_store_lines l.at l.cut l.put l.store.lines);
  room : stored_text_len (drop l.place (exchanged_store_lines l.at l.cut l.put l.store.lines)) + most_store_bytes
      ≡ stored_text_len (exchanged_store_lines l.at l.cut l.put l.store.lines) + l.room;
}
