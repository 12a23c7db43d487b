use Rattle.std.proofs.Common.{◌<◌, ap, ◌∙◌, length, sym, slice_get, subst}
use Rattle.deck_lines.specs.StoreEdits.{StoreEdit}
use Rattle.deck_lines.proofs.store.edited_lines.EditedLines.line.Goals as goal

pub line_at-requires-clause-inside : goal.line_at-requires-clause-inside
line_at-requires-clause-inside c = subst (λ (e : StoreEdit). c.args.place < length e.new_lines) (sym c.self.view_is)
    c.requires

pub returns : goal.returns
returns c = ap (λ (e : StoreEdit). slice_get e.new_lines c.args.place) (sym c.self.view_is) ∙ c.line_at.ensures
