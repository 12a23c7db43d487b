use Rattle.std.proofs.Common.{map, sym, ap, ◌∙◌}
use Rattle.deck_lines.specs.Limits.{pass_store_limit}
use Rattle.deck_lines.specs.Marks.{store_line_without_mark}
use Rattle.deck_lines.proofs.MarkLimits.{kept_within, store_marks_off}
use Rattle.deck_lines.proofs.store.line_list.LineList.lines.Goals as goal

pub returns-clause-lines : goal.returns-clause-lines
returns-clause-lines c =
    sym (store_marks_off c.self.inside.lines c.self.inside.marks.listed c.self.invariant.mark_count)
    ∙ ap (map store_line_without_mark) c.self.view_is

pub returns-clause-within : goal.returns-clause-within
returns-clause-within c =
    ap pass_store_limit (sym c.self.view_is)
    ∙ kept_within c.self.inside.lines c.self.inside.marks.listed c.self.inside.bytes c.self.invariant
