use Rattle.std.proofs.Common.{◌+◌, ◌∙◌, List, ap, sym, map}
use Rattle.def_lines.specs.declared.line.Line.{Line}
use Rattle.def_lines.specs.Lines.{logical_lines_with_front, numbered_logical_lines, physical_lines}
use Rattle.def_lines.specs.Lines.{trimmed_logical_line}
use Rattle.def_lines.proofs.ContinuedLines.{logical_lines-ended}
use Rattle.def_lines.proofs.cursor.join_lines.Goals as goal

pub returns-in-None-clause-lines : goal.returns-in-None-clause-lines
returns-in-None-clause-lines c =
    c.in_ok-end_line-in-None.ensures (c.loop-rest.last + 1)
    (numbered_logical_lines (c.loop-rest.last + 1 + 1) (physical_lines c.next_line.result.1.now))
    ∙ ap (λ (lines : List Line).
    map trimmed_logical_line (logical_lines_with_front c.loop-rest.part.number c.loop-rest.part.text.items lines))
    (sym (logical_lines-ended (c.loop-rest.last + 1) c.loop-rest.rest.now c.next_line.result.0.now
    c.next_line.result.1.now
    c.clean-line.result.now
    c.next_line.ensures.lines c.clean-line.ensures c.in-None.ensures))
    ∙ c.loop-rest.invariant.same
