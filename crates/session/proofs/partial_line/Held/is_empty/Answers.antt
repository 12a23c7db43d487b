use Rattle.std.proofs.Common.{◌∙◌, not, ap}
use Rattle.session.proofs.HeldLine.{none_empty, part_empty}
use Rattle.session.proofs.partial_line.Held.is_empty.Goals as goal

pub returns-then-not-self : goal.returns-then-not-self
returns-then-not-self c part h =
    c.is_empty.ensures
    ∙ part_empty c.self.inside.long c.self.inside.bytes.items c.args.self.now c.self.view_is part h _ c.if-not-self.true
    c.self.inside.bytes.ok.0

pub returns-else-not-self : goal.returns-else-not-self
returns-else-not-self c part h =
    ap not c.if-not-self.false
    ∙ none_empty c.self.inside.long c.self.inside.bytes.items c.args.self.now c.self.view_is part h c.if-not-self.false
