use Rattle.std.proofs.Common.{length, sym, ap, ◌∙◌}
use Rattle.deck_lines.proofs.MarkLimits.{store_marks_len}
use Rattle.deck_lines.proofs.store.line_list.LineList.len.Goals as goal

pub returns : goal.returns
returns c =
    c.len.ensures ∙ sym (store_marks_len c.self.inside.lines c.self.inside.marks.listed c.self.invariant.mark_count)
    ∙ ap length c.self.view_is
