use Rattle.std.proofs.Common.{◌≡◌, false, ap, subst, ◌∙◌}
use Rattle.deck_lines.specs.ClosedBlocks.{AreBlocksClosed}
use Rattle.deck_lines.specs.Limits.{pass_store_limit}
use Rattle.deck.specs.Decks.{DeckContents}
use Rattle.edit_history.proofs.OneSetting.{undo_removes_last_variable}
use Rattle.edit_history.proofs.step_application.one_setting.unset_last.Goals as goal

pub returns-in-Ok-unset_last : goal.returns-in-Ok-unset_last
returns-in-Ok-unset_last c =
    let made = undo_removes_last_variable c.in-Ok.back c.settings.result.now c.args.table.now.deck
    c.unset_last.new.self.deck
    (c.settings.ensures ∙ ap (λ (d : DeckContents). d.settings) c.deck-2.ensures.deck) c.in-Ok.ensures
    c.in-Ok-unset_last.ensures.0
    (subst (λ (d : DeckContents). AreBlocksClosed d.lines) c.deck.ensures.deck c.lines_closed.ensures.closed)
    (subst (λ (d : DeckContents). pass_store_limit d.lines ≡ false) c.deck.ensures.deck c.lines_closed.ensures.within)
    in
    (made.made, made.can, made.again, c.in-Ok-unset_last.ensures.1)
