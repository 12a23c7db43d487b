use Rattle.std.proofs.Common.{◌∙◌}
use Rattle.def_lines.proofs.ContinuedLines.{logical_line-ended}
use Rattle.def_lines.proofs.part.Part.end_line.Goals as goal

pub returns : goal.returns
returns c = λ number more.
    logical_line-ended c.args.self.number c.complete.result c.args.self.text.items c.put_bytes.new.self.text.items
    c.args.bytes.now
    (c.complete.ensures.number ∙ c.in_ok-put_bytes.ensures.number) c.complete.ensures.text
    c.in_ok-put_bytes.ensures.text more
