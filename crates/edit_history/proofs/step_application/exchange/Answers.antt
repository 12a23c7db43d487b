use Rattle.std.proofs.Common.{◌≡◌, false, ap, subst, ◌∙◌}
use Rattle.deck_lines.specs.ClosedBlocks.{AreBlocksClosed}
use Rattle.deck_lines.specs.Limits.{pass_store_limit}
use Rattle.deck.specs.Decks.{DeckContents}
use Rattle.edit_history.proofs.Boxes.{undo_exchange_in_box}
use Rattle.edit_history.proofs.step_application.exchange.Goals as goal

pub returns-in-Ok-splice : goal.returns-in-Ok-splice
returns-in-Ok-splice c =
    let old = c.args.table.now.deck in
    let made = undo_exchange_in_box c.splices_are_undone.ensures c.args.boxed c.replace-at.result c.replace.new.self
    c.in-Ok.settings c.in-Ok-splice.undo old c.splice.new.self.deck c.replace-at.ensures.before
    (c.replace.ensures.after ∙ c.exchange_in.ensures)
    c.in-Ok-splice.ensures.0 c.in-Ok-splice.ensures.1
    (c.in-Ok.ensures ∙ c.settings.ensures ∙ ap (λ (d : DeckContents). d.settings) c.deck-2.ensures.deck)
    c.requires.splice.range_within
    (subst (λ (d : DeckContents). AreBlocksClosed d.lines) c.deck.ensures.deck c.lines_closed.ensures.closed)
    (subst (λ (d : DeckContents). pass_store_limit d.lines ≡ false) c.deck.ensures.deck c.lines_closed.ensures.within)
    in
    (made.made, made.can, made.again, c.in-Ok-splice.ensures.2)
