use Rattle.std.proofs.Common.{◌≡◌, ◌∷◌, false, sym, ap, subst, ◌∙◌}
use Rattle.std.specs.Prelude.{reverse}
use Rattle.deck_lines.specs.ClosedBlocks.{AreBlocksClosed}
use Rattle.deck_lines.specs.Limits.{pass_store_limit}
use Rattle.deck.specs.Decks.{DeckContents}
use Rattle.edit_history.specs.Histories.{UndoStacks}
use Rattle.edit_history.specs.declared.step.Step.TheVariants.{Switch}
use Rattle.edit_history.proofs.Noting.{LeadsBack, history_follows_recorded_edit, undo_course_with_recorded_step}
use Rattle.edit_history.proofs.Switched.{undo_switch_leads_back}
use Rattle.edit_history.proofs.history.History.switch.Goals as goal

pub returns-clause-follows : goal.returns-clause-follows
returns-clause-follows c =
    let s = Switch c.replace.new.self in
    let back = subst (λ t. LeadsBack t c.args.table.now.deck c.switch_settings.new.table.deck)
    (sym (ap Switch c.replace.ensures.after))
    (undo_switch_leads_back c.in-Ok.back c.args.settings c.args.table.now.deck c.switch_settings.new.table.deck
    c.in-Ok.ensures.0 c.in-Ok.ensures.1 c.in-Ok.ensures.2
    (subst (λ (d : DeckContents). AreBlocksClosed d.lines) c.deck.ensures.deck c.lines_closed.ensures.closed)
    (subst (λ (d : DeckContents). pass_store_limit d.lines ≡ false) c.deck.ensures.deck c.lines_closed.ensures.within))
    in
    let is = undo_course_with_recorded_step s (reverse c.put.new.steps.items) c.clear.new.self.items
    c.args.self.now.done_steps
    (c.put.ensures ∙ ap (λ xs. s ∷ reverse xs) c.make_room.ensures.items
    ∙ ap (λ (h : UndoStacks). s ∷ h.done_steps) c.self.view_is)
    c.clear.ensures.items in
    history_follows_recorded_edit s c.args.self.now _ c.args.table.now.deck c.switch_settings.new.table.deck is back.can
    back.again
    c.requires

pub returns-clause-noted : goal.returns-clause-noted
returns-clause-noted c =
    let s = Switch c.replace.new.self in
    let back = subst (λ t. LeadsBack t c.args.table.now.deck c.switch_settings.new.table.deck)
    (sym (ap Switch c.replace.ensures.after))
    (undo_switch_leads_back c.in-Ok.back c.args.settings c.args.table.now.deck c.switch_settings.new.table.deck
    c.in-Ok.ensures.0 c.in-Ok.ensures.1 c.in-Ok.ensures.2
    (subst (λ (d : DeckContents). AreBlocksClosed d.lines) c.deck.ensures.deck c.lines_closed.ensures.closed)
    (subst (λ (d : DeckContents). pass_store_limit d.lines ≡ false) c.deck.ensures.deck c.lines_closed.ensures.within))
    in
    let is = undo_course_with_recorded_step s (reverse c.put.new.steps.items) c.clear.new.self.items
    c.args.self.now.done_steps
    (c.put.ensures ∙ ap (λ xs. s ∷ reverse xs) c.make_room.ensures.items
    ∙ ap (λ (h : UndoStacks). s ∷ h.done_steps) c.self.view_is)
    c.clear.ensures.items in
    (s, is, back.again)
