use Rattle.std.proofs.Common.{◌≡◌, ◌++◌, ◌+◌, ◌≤◌, map, reverse, vec_len, vec_capacity}
use Rattle.deck_lines.specs.Marks.{mark_of_store_line, store_line_without_mark}
use Rattle.deck_lines.proofs.store.line_replacement.take_apart.Given as goal

abbrev pub invariant-loop-line : goal.invariant-loop-line
invariant-loop-line l = record {
  lines : map store_line_without_mark l.rest.items ++ reverse l.lines.items ≡ map store_line_without_mark
      l.initial.rest.items;
  marks : map mark_of_store_line l.rest.items ++ reverse l.marks.items ≡ map mark_of_store_line l.initial.rest.items;
  line_count : vec_len l.rest + vec_len l.lines ≡ vec_len l.initial.rest;
  mark_count : vec_len l.rest + vec_len l.marks ≡ vec_len l.initial.rest;
  line_room : vec_len l.initial.rest ≤ vec_capacity l.lines;
  mark_room : vec_len l.initial.rest ≤ vec_capacity l.marks;
}

abbrev pub decreases-loop-line : goal.decreases-loop-line
decreases-loop-line l = vec_len l.rest
