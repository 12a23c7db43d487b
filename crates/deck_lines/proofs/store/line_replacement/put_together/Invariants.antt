use Rattle.std.proofs.Common.{◌≡◌, ◌++◌, ◌+◌, ◌≤◌, reverse, vec_len, vec_capacity}
use Rattle.deck_lines.specs.Marks.{store_lines_with_marks}
use Rattle.deck_lines.proofs.store.line_replacement.put_together.Given as goal

abbrev pub invariant-loop-line : goal.invariant-loop-line
invariant-loop-line l = record {
  all : store_lines_with_marks l.lines.items l.marks.items ++ reverse l.into.items
      ≡ store_lines_with_marks l.initial.lines.items l.initial.marks.items;
  each : vec_len l.marks ≡ vec_len l.lines;
  count : vec_len l.lines + vec_len l.into ≡ vec_len l.initial.lines;
  room : vec_len l.initial.lines ≤ vec_capacity l.into;
}

abbrev pub decreases-loop-line : goal.decreases-loop-line
decreases-loop-line l = vec_len l.lines
