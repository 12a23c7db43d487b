use Rattle.std.proofs.Common.{ap, ◌∙◌}
use Rattle.deck_lines.specs.StoreEdits.{StoreEdit, store_before, store_unedited}
use Rattle.deck_lines.proofs.store.edited_lines.EditedLines.before.Goals as goal

pub returns : goal.returns
returns c =
    c.without_change.ensures.is ∙ ap (λ (v : StoreEdit). store_unedited (store_before v)) c.self.view_is
