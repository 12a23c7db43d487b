use Rattle.std.proofs.Common.{◌≡◌, ◌∷◌, ◌<◌, false, length, Some, sym, ap, subst, ◌∙◌, arith}
use Rattle.std.specs.Prelude.{reverse}
use Rattle.deck_lines.specs.ClosedBlocks.{AreBlocksClosed}
use Rattle.deck_lines.specs.Limits.{pass_store_limit}
use Rattle.deck.specs.Decks.{DeckContents}
use Rattle.deck.specs.Splices.{lines_from_deck_place}
use Rattle.deck.specs.Tables.{last_definition_place}
use Rattle.edit_history.specs.Histories.{UndoStacks}
use Rattle.edit_history.specs.declared.step.Step.TheVariants.{Exchange}
use Rattle.edit_history.proofs.Noting.{LeadsBack, history_follows_recorded_edit, recorded_drop_can_be_undone}
use Rattle.edit_history.proofs.Noting.{undo_course_with_recorded_step}
use Rattle.edit_history.proofs.Placed.{last_history_place_is_within}
use Rattle.edit_history.proofs.history.History.drop_last.Goals as goal

pub lines_from-requires : goal.lines_from-requires
lines_from-requires c =
    let last : last_definition_place c.args.table.now.deck.settings c.args.table.now.deck.lines c.args.key.now ≡ Some
    c.in-Some.at
    =
    ap (λ (d : DeckContents). last_definition_place d.settings d.lines c.args.key.now) (sym c.deck-2.ensures.deck)
    ∙ sym c.in-Some.ensures in
    let inside : c.in-Some.at < length c.args.table.now.deck.lines = last_history_place_is_within _ _ c.args.key.now
    c.in-Some.at last in
    omega (arith, inside, ap (λ (d : DeckContents). length d.lines) c.deck-3.ensures.deck)

pub returns-clause-follows : goal.returns-clause-follows
returns-clause-follows c =
    let s = Exchange c.in_ok-step.step in
    let last : last_definition_place c.args.table.now.deck.settings c.args.table.now.deck.lines c.args.key.now ≡ Some
    c.in-Some.at
    =
    ap (λ (d : DeckContents). last_definition_place d.settings d.lines c.args.key.now) (sym c.deck-2.ensures.deck)
    ∙ sym c.in-Some.ensures in
    let back = subst (λ t. LeadsBack t c.args.table.now.deck c.drop_last.new.self.deck)
    (sym (ap Exchange c.in_ok-step.ensures))
    (recorded_drop_can_be_undone c.splices_are_undone.ensures c.args.key.now c.in-Some.at c.in_ok-put.put
    c.args.table.now.deck
    c.drop_last.new.self.deck last
    c.in_ok-drop_last.ensures.0
    (c.in_ok-put.ensures ∙ ap (λ (d : DeckContents). lines_from_deck_place c.in-Some.at 1 d.lines)
    c.deck-3.ensures.deck)
    (subst (λ (d : DeckContents). AreBlocksClosed d.lines) c.deck.ensures.deck c.lines_closed.ensures.closed)
    (subst (λ (d : DeckContents). pass_store_limit d.lines ≡ false) c.deck.ensures.deck c.lines_closed.ensures.within))
    in
    let is = undo_course_with_recorded_step s (reverse c.put.new.steps.items) c.clear.new.self.items
    c.args.self.now.done_steps
    (c.put.ensures ∙ ap (λ xs. s ∷ reverse xs) c.make_room.ensures.items
    ∙ ap (λ (h : UndoStacks). s ∷ h.done_steps) c.self.view_is) c.clear.ensures.items in
    history_follows_recorded_edit s c.args.self.now _ c.args.table.now.deck c.drop_last.new.self.deck is back.can
    back.again c.requires

pub returns-clause-noted : goal.returns-clause-noted
returns-clause-noted c =
    let s = Exchange c.in_ok-step.step in
    let last : last_definition_place c.args.table.now.deck.settings c.args.table.now.deck.lines c.args.key.now ≡ Some
    c.in-Some.at
    =
    ap (λ (d : DeckContents). last_definition_place d.settings d.lines c.args.key.now) (sym c.deck-2.ensures.deck)
    ∙ sym c.in-Some.ensures in
    let back = subst (λ t. LeadsBack t c.args.table.now.deck c.drop_last.new.self.deck)
    (sym (ap Exchange c.in_ok-step.ensures))
    (recorded_drop_can_be_undone c.splices_are_undone.ensures c.args.key.now c.in-Some.at c.in_ok-put.put
    c.args.table.now.deck
    c.drop_last.new.self.deck last
    c.in_ok-drop_last.ensures.0
    (c.in_ok-put.ensures ∙ ap (λ (d : DeckContents). lines_from_deck_place c.in-Some.at 1 d.lines)
    c.deck-3.ensures.deck)
    (subst (λ (d : DeckContents). AreBlocksClosed d.lines) c.deck.ensures.deck c.lines_closed.ensures.closed)
    (subst (λ (d : DeckContents). pass_store_limit d.lines ≡ false) c.deck.ensures.deck c.lines_closed.ensures.within))
    in
    let is = undo_course_with_recorded_step s (reverse c.put.new.steps.items) c.clear.new.self.items
    c.args.self.now.done_steps
    (c.put.ensures ∙ ap (λ xs. s ∷ reverse xs) c.make_room.ensures.items
    ∙ ap (λ (h : UndoStacks). s ∷ h.done_steps) c.self.view_is) c.clear.ensures.items in
    (s, is, back.again)
