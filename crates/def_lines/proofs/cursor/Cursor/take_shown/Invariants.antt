use Rattle.std.proofs.Common.{◌≡◌, length}
use Rattle.def_lines.specs.Lines.{nonblank_lines}
use Rattle.def_lines.proofs.cursor.Cursor.take_shown.Given as goal

abbrev pub invariant-loop-line : goal.invariant-loop-line
invariant-loop-line l = nonblank_lines l.self ≡ nonblank_lines l.initial.self

abbrev pub decreases-loop-line : goal.decreases-loop-line
decreases-loop-line l = length l.self
