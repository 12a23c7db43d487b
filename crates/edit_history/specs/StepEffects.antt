-- The effects of the parts of a history's calls on a live table.
use Rattle.std.specs.Prelude.{◌≡◌, Result, Ok, Err}
use Rattle.std.specs.declared.alloc.AllocError.{AllocError}
use Rattle.units_io.specs.NamedValues.{HasDistinctTextNames}
use Rattle.deck.specs.Edits.{deck_after_switching}
use Rattle.deck.specs.Splices.{deck_after_splicing}
use Rattle.deck.specs.declared.settings.Settings.{Settings}
use Rattle.live_table.specs.Calls.{IsAcceptedLiveEdit}
use Rattle.live_table.specs.TableView.{LiveView}
use Rattle.edit_history.specs.Steps.{CanMakeUndoStep, IsUndoStepRight, undo_settings_splice, undo_step_splice}
use Rattle.edit_history.specs.Steps.{version_after_undo_step}
use Rattle.edit_history.specs.SettingSwitches.{history_settings_after_change}
use Rattle.edit_history.specs.Versions.{HistoryVersion, history_version}
use Rattle.edit_history.specs.declared.settings_change.SettingsChange.{SettingsChange}
use Rattle.edit_history.specs.declared.step.Step.{Step}

-- the step is made, and the step back can then be made and restores the version before it; or the step is returned, and
-- everything is as before
abbrev pub IsUndoStepMade : Step → LiveView → LiveView → Result Step Step → Type 0
IsUndoStepMade s old new (Ok back) =
    (new.deck ≡ deck_after_splicing (undo_step_splice s (history_version old.deck)) old.deck) × CanMakeUndoStep back
    (history_version new.deck)
    × (version_after_undo_step back (history_version new.deck) ≡ history_version old.deck) × IsAcceptedLiveEdit old new
IsUndoStepMade s old new (Err refused) = (new ≡ old) × (refused ≡ s)

-- other settings are in force, the change that restores the previous ones is returned, and no two variables of the
-- previous ones have one name; or everything is as before
abbrev pub IsUndoSwitchMade : Settings → LiveView → LiveView → Result SettingsChange AllocError → Type 0
IsUndoSwitchMade settings old new (Ok back) =
    (new.deck ≡ deck_after_switching settings old.deck)
    × (history_settings_after_change back settings ≡ old.deck.settings)
    × HasDistinctTextNames old.deck.settings.vars × IsAcceptedLiveEdit old new
IsUndoSwitchMade settings old new (Err refused) = new ≡ old

-- a step turns the settings `from` into `to`, leaves the lines, and can be made in each version with the settings
-- `from`
pub record UndoStepPutsSettings (s : Step) (from to : Settings) : Type 0 where
  pub splice : (v : HistoryVersion) → v.settings ≡ from → undo_step_splice s v ≡ undo_settings_splice to
  pub step_right : (v : HistoryVersion) → IsUndoStepRight s v
