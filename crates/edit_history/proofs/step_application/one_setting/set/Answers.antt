use Rattle.std.proofs.Common.{◌≡◌, false, ap, subst, ◌∙◌}
use Rattle.deck_lines.specs.ClosedBlocks.{AreBlocksClosed}
use Rattle.deck_lines.specs.Limits.{pass_store_limit}
use Rattle.deck.specs.Decks.{DeckContents}
use Rattle.edit_history.proofs.OneSetting.{undo_variable_is_made}
use Rattle.edit_history.proofs.step_application.one_setting.set.Goals as goal

pub returns-in-Ok-set : goal.returns-in-Ok-set
returns-in-Ok-set c =
    let made = undo_variable_is_made c.args.pair c.in-Ok.back c.settings.result.now c.name.result.now c.value.result.now
    c.name-2.result.now c.value-2.result.now c.args.table.now.deck c.set.new.self.deck c.name.ensures c.value.ensures
    c.name-2.ensures c.value-2.ensures
    (c.settings.ensures ∙ ap (λ (d : DeckContents). d.settings) c.deck-2.ensures.deck) c.in-Ok.ensures
    c.in-Ok-set.ensures.0
    (subst (λ (d : DeckContents). AreBlocksClosed d.lines) c.deck.ensures.deck c.lines_closed.ensures.closed)
    (subst (λ (d : DeckContents). pass_store_limit d.lines ≡ false) c.deck.ensures.deck c.lines_closed.ensures.within)
    in
    (made.made, made.can, made.again, c.in-Ok-set.ensures.1)
