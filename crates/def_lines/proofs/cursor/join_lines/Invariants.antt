use Rattle.std.proofs.Common.{◌≡◌, ◌≤◌, ◌+◌, ◌++◌, ◌∷◌, [], length, map}
use Rattle.def_lines.specs.Lines.{logical_lines_with_front, numbered_logical_lines, physical_lines}
use Rattle.def_lines.specs.Lines.{trimmed_logical_line}
use Rattle.def_lines.proofs.cursor.join_lines.Given as goal

abbrev pub invariant-loop-rest : goal.invariant-loop-rest
invariant-loop-rest l = record {
  few : l.last + length l.rest ≤ l.fn.number + length l.fn.bytes;
  same : map trimmed_logical_line
      (logical_lines_with_front l.part.number l.part.text.items
      (numbered_logical_lines (l.last + 1) (physical_lines l.rest)))
      ≡ map trimmed_logical_line
      (logical_lines_with_front l.fn.number (l.fn.start ++ 32 ∷ [])
      (numbered_logical_lines (l.fn.number + 1) (physical_lines l.fn.bytes)));
}

abbrev pub decreases-loop-rest : goal.decreases-loop-rest
decreases-loop-rest l = length l.rest
