use Rattle.std.proofs.Common.{◌≡◌, ◌++◌, ◌+◌, ◌≤◌, reverse, vec_len, vec_capacity}
use Rattle.deck_lines.proofs.store.exchange.move_last.Given as goal

abbrev pub invariant-loop-from : goal.invariant-loop-from
invariant-loop-from g l = record {
  all : l.from.items ++ reverse l.to.items ≡ l.initial.from.items;
  count : vec_len l.from + vec_len l.to ≡ vec_len l.initial.from;
  more : l.left ≤ vec_len l.from;
  room : vec_len l.initial.from ≤ l.left + vec_capacity l.to;
  capacity : vec_capacity l.from ≡ vec_capacity l.initial.from;
}

abbrev pub decreases-loop-from : goal.decreases-loop-from
decreases-loop-from g l = vec_len l.from
