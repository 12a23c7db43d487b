use Rattle.std.proofs.Common.{◌≡◌, ◌∷◌, false, ap, subst, ◌∙◌}
use Rattle.std.specs.Prelude.{reverse}
use Rattle.deck_lines.specs.ClosedBlocks.{AreBlocksClosed}
use Rattle.deck_lines.specs.Limits.{pass_store_limit}
use Rattle.deck.specs.Decks.{DeckContents}
use Rattle.deck.specs.SettingChanges as changes
use Rattle.deck.specs.declared.settings.Settings.{Settings}
use Rattle.edit_history.specs.Histories.{UndoStacks}
use Rattle.edit_history.specs.StepEffects.{UndoStepPutsSettings}
use Rattle.edit_history.proofs.Noting.{history_follows_recorded_edit, undo_course_with_recorded_step}
use Rattle.edit_history.proofs.OneSetting.{undo_settings_lead_back}
use Rattle.edit_history.proofs.history.History.set.Goals as goal

pub returns-clause-follows : goal.returns-clause-follows
returns-clause-follows c =
    let old = c.args.table.now.deck in
    let new = c.set.new.self.deck in
    let s = c.in_ok-back.back in
    let settings = changes.settings_with_variable c.args.table.now.deck.settings c.args.name.now c.args.value.now in
    let puts = subst (λ (d : DeckContents).
    UndoStepPutsSettings s (changes.settings_with_variable d.settings c.args.name.now c.args.value.now) d.settings)
    c.deck-2.ensures.deck
    (subst (λ (t : Settings). UndoStepPutsSettings s (changes.settings_with_variable t c.args.name.now c.args.value.now)
    t)
    c.settings.ensures c.in_ok-back.ensures) in
    let leads = undo_settings_lead_back s settings old new c.in_ok-set.ensures.0 puts
    (subst (λ (d : DeckContents). AreBlocksClosed d.lines) c.deck.ensures.deck c.lines_closed.ensures.closed)
    (subst (λ (d : DeckContents). pass_store_limit d.lines ≡ false) c.deck.ensures.deck c.lines_closed.ensures.within)
    in
    let is = undo_course_with_recorded_step s (reverse c.put.new.steps.items) c.clear.new.self.items
    c.args.self.now.done_steps
    (c.put.ensures ∙ ap (λ xs. s ∷ reverse xs) c.make_room.ensures.items
    ∙ ap (λ (h : UndoStacks). s ∷ h.done_steps) c.self.view_is) c.clear.ensures.items in
    history_follows_recorded_edit s c.args.self.now _ old new is leads.can leads.again c.requires

pub returns-clause-noted : goal.returns-clause-noted
returns-clause-noted c =
    let old = c.args.table.now.deck in
    let new = c.set.new.self.deck in
    let s = c.in_ok-back.back in
    let settings = changes.settings_with_variable c.args.table.now.deck.settings c.args.name.now c.args.value.now in
    let puts = subst (λ (d : DeckContents).
    UndoStepPutsSettings s (changes.settings_with_variable d.settings c.args.name.now c.args.value.now) d.settings)
    c.deck-2.ensures.deck
    (subst (λ (t : Settings). UndoStepPutsSettings s (changes.settings_with_variable t c.args.name.now c.args.value.now)
    t)
    c.settings.ensures c.in_ok-back.ensures) in
    let leads = undo_settings_lead_back s settings old new c.in_ok-set.ensures.0 puts
    (subst (λ (d : DeckContents). AreBlocksClosed d.lines) c.deck.ensures.deck c.lines_closed.ensures.closed)
    (subst (λ (d : DeckContents). pass_store_limit d.lines ≡ false) c.deck.ensures.deck c.lines_closed.ensures.within)
    in
    let is = undo_course_with_recorded_step s (reverse c.put.new.steps.items) c.clear.new.self.items
    c.args.self.now.done_steps
    (c.put.ensures ∙ ap (λ xs. s ∷ reverse xs) c.make_room.ensures.items
    ∙ ap (λ (h : UndoStacks). s ∷ h.done_steps) c.self.view_is) c.clear.ensures.items in
    (s, is, leads.again)
