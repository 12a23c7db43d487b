use Rattle.std.proofs.Common.{◌≡◌, false, ap, subst, ◌∙◌}
use Rattle.deck_lines.specs.ClosedBlocks.{AreBlocksClosed}
use Rattle.deck_lines.specs.Limits.{pass_store_limit}
use Rattle.deck.specs.Decks.{DeckContents}
use Rattle.deck.specs.declared.settings.Settings.{Settings}
use Rattle.edit_history.proofs.OneSetting.{undo_of_same_locale}
use Rattle.edit_history.proofs.step_application.one_setting.change_nothing.Goals as goal

pub returns-in-Ok-set_locale : goal.returns-in-Ok-set_locale
returns-in-Ok-set_locale c =
    let made = undo_of_same_locale c.as_bytes.result.now c.args.table.now.deck c.set_locale.new.self.deck
    (c.as_bytes.ensures ∙ c.in-Ok.ensures
    ∙ ap (λ (s : Settings). s.locale)
    (c.settings.ensures ∙ ap (λ (d : DeckContents). d.settings) c.deck-2.ensures.deck))
    c.in-Ok-set_locale.ensures.0
    (subst (λ (d : DeckContents). AreBlocksClosed d.lines) c.deck.ensures.deck c.lines_closed.ensures.closed)
    (subst (λ (d : DeckContents). pass_store_limit d.lines ≡ false) c.deck.ensures.deck c.lines_closed.ensures.within)
    in
    (made.made, made.can, made.again, c.in-Ok-set_locale.ensures.1)
