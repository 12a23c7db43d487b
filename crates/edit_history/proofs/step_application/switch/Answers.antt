use Rattle.std.proofs.Common.{◌≡◌, false, sym, ap, subst, ◌∙◌}
use Rattle.units_io.specs.NamedValues.{HasDistinctTextNames}
use Rattle.deck_lines.specs.ClosedBlocks.{AreBlocksClosed}
use Rattle.deck_lines.specs.Limits.{pass_store_limit}
use Rattle.deck.specs.Decks.{DeckContents}
use Rattle.deck.specs.declared.settings.Settings.{Settings}
use Rattle.edit_history.specs.SettingSwitches.{history_settings_after_change}
use Rattle.edit_history.specs.declared.settings_change.SettingsChange.{SettingsChange}
use Rattle.edit_history.specs.declared.step.Step.TheVariants.{Switch}
use Rattle.edit_history.proofs.GoingBack.{IsMade}
use Rattle.edit_history.proofs.Switched.{undo_change_is_made, undo_switch_leads_back}
use Rattle.edit_history.proofs.step_application.switch.Goals as goal

pub changed_settings-requires : goal.changed_settings-requires
changed_settings-requires c =
    subst (λ (e : SettingsChange). HasDistinctTextNames (history_settings_after_change e c.settings.result.now).vars)
    (sym c.get.ensures)
    (subst (λ (s : Settings). HasDistinctTextNames (history_settings_after_change c.args.change s).vars)
    (sym (c.settings.ensures ∙ ap (λ (d : DeckContents). d.settings) c.deck-2.ensures.deck)) c.requires.step_right)

pub returns-in-Ok-switch_settings : goal.returns-in-Ok-switch_settings
returns-in-Ok-switch_settings c =
    let old = c.args.table.now.deck in
    let new = c.switch_settings.new.table.deck in
    let leads = undo_switch_leads_back c.in-Ok-switch_settings.back c.in-Ok.settings old new
    c.in-Ok-switch_settings.ensures.0
    c.in-Ok-switch_settings.ensures.1 c.in-Ok-switch_settings.ensures.2
    (subst (λ (d : DeckContents). AreBlocksClosed d.lines) c.deck.ensures.deck c.lines_closed.ensures.closed)
    (subst (λ (d : DeckContents). pass_store_limit d.lines ≡ false) c.deck.ensures.deck c.lines_closed.ensures.within)
    in
    let made = subst (λ (e : SettingsChange). IsMade (Switch c.args.change) (Switch e) old new)
    (sym c.replace.ensures.after)
    (undo_change_is_made c.args.change c.in-Ok-switch_settings.back c.in-Ok.settings old new
    (c.in-Ok.ensures ∙ ap (λ (e : SettingsChange). history_settings_after_change e c.settings.result.now) c.get.ensures
    ∙ ap (history_settings_after_change c.args.change)
    (c.settings.ensures ∙ ap (λ (d : DeckContents). d.settings) c.deck-2.ensures.deck))
    c.in-Ok-switch_settings.ensures.0 leads) in
    (made.made, made.can, made.again, c.in-Ok-switch_settings.ensures.3)
