use Rattle.std.proofs.Common.{◌≡◌, ◌++◌, length}
use Rattle.def_lines.specs.Lines.{logical_lines}
use Rattle.def_lines.proofs.cursor.split_lines.Given as goal

abbrev pub invariant-loop-lines : goal.invariant-loop-lines
invariant-loop-lines l = l.lines ++ l.cursor ≡ logical_lines l.fn.bytes

abbrev pub decreases-loop-lines : goal.decreases-loop-lines
decreases-loop-lines l = length l.cursor
