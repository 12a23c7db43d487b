use Rattle.std.proofs.Common.{◌≡◌, false, ap, subst, ◌∙◌}
use Rattle.deck_lines.specs.ClosedBlocks.{AreBlocksClosed}
use Rattle.deck_lines.specs.Limits.{pass_store_limit}
use Rattle.deck.specs.Decks.{DeckContents}
use Rattle.edit_history.proofs.OneSetting.{undo_locale_is_made}
use Rattle.edit_history.proofs.step_application.one_setting.set_locale.Goals as goal

pub returns-in-Ok-set_locale : goal.returns-in-Ok-set_locale
returns-in-Ok-set_locale c =
    let made = undo_locale_is_made c.args.locale c.as_bytes.result.now c.as_bytes-2.result.now c.in-Ok.back
    c.settings.result.now c.args.table.now.deck c.set_locale.new.self.deck c.as_bytes.ensures c.as_bytes-2.ensures
    (c.settings.ensures ∙ ap (λ (d : DeckContents). d.settings) c.deck-2.ensures.deck) c.in-Ok.ensures
    c.in-Ok-set_locale.ensures.0
    (subst (λ (d : DeckContents). AreBlocksClosed d.lines) c.deck.ensures.deck c.lines_closed.ensures.closed)
    (subst (λ (d : DeckContents). pass_store_limit d.lines ≡ false) c.deck.ensures.deck c.lines_closed.ensures.within)
    in
    (made.made, made.can, made.again, c.in-Ok-set_locale.ensures.1)
