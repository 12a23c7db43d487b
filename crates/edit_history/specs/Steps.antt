-- Steps from one version of a deck to another.
use Rattle.std.specs.Prelude.{◌≡◌, ◌-◌, ◌∷◌, [], ⊤, ℕ, List, length, Option, Ok}
use Rattle.units_io.specs.NamedValues.{HasDistinctTextNames}
use Rattle.def_lines.specs.Blanks.{trimmed_of_blanks}
use Rattle.deck_lines.specs.Marks.{plain_store_line}
use Rattle.deck.specs.Edits.{deck_after_defining, deck_with_line}
use Rattle.deck.specs.SettingChanges.{settings_with_locale, settings_with_variable, settings_without_last_variable}
use Rattle.deck.specs.Splices.{CanSpliceDeck, deck_after_splicing}
use Rattle.deck.specs.LineRemoval.{deck_place_of_defined_key}
use Rattle.deck.specs.declared.settings.Settings.{Settings}
use Rattle.deck.specs.declared.splice.Splice.{Splice}
use Rattle.edit_history.specs.SettingSwitches.{history_settings_after_change}
use Rattle.edit_history.specs.Versions.{HistoryVersion, deck_of_history_version, history_version}
use Rattle.edit_history.specs.declared.step.Step.{Step}
use Rattle.edit_history.specs.declared.step.Step.TheVariants.{Define, Undefine, Exchange, Switch, Set, UnsetLast}
use Rattle.edit_history.specs.declared.step.Step.TheVariants.{Locale, Nothing}

-- the splice that puts other settings in force and leaves the lines
abbrev pub undo_settings_splice : Settings → Splice
undo_settings_splice settings = record { at = 0; cut = 0; put = []; settings = settings }

-- the splice that a step makes in a version
abbrev pub undo_step_splice : Step → HistoryVersion → Splice
undo_step_splice (Define text) v =
    record { at = length v.lines; cut = 0; put = plain_store_line 0 text ∷ []; settings = v.settings }
undo_step_splice (Undefine uncovered) v =
    record { at = length v.lines - 1; cut = 1; put = []; settings = v.settings }
undo_step_splice (Exchange e) v = record { at = e.at; cut = e.cut; put = e.put; settings = v.settings }
undo_step_splice (Switch change) v = undo_settings_splice (history_settings_after_change change v.settings)
undo_step_splice (Set pair) v = undo_settings_splice (settings_with_variable v.settings pair.0 pair.1)
undo_step_splice UnsetLast v = undo_settings_splice (settings_without_last_variable v.settings)
undo_step_splice (Locale locale) v = undo_settings_splice (settings_with_locale v.settings locale)
undo_step_splice Nothing v = undo_settings_splice v.settings

-- the version after a step
abbrev pub version_after_undo_step : Step → HistoryVersion → HistoryVersion
version_after_undo_step s v = history_version (deck_after_splicing (undo_step_splice s v) (deck_of_history_version v))

-- `define` appends this line unchanged
pub record IsRedoneDefinition (text : List ℕ) (v : HistoryVersion) : Type 0 where
  pub bare : trimmed_of_blanks text ≡ text
  pub text_accepted : deck_after_defining text (deck_of_history_version v) ≡ Ok
      (deck_with_line text (deck_of_history_version v))

-- `define` appended the last line, and before that the line of its key that was in force had this place
pub record IsLastRecordedDefinition (uncovered : Option ℕ) (v : HistoryVersion) : Type 0 where
  pub text : List ℕ
  pub earlier_version : HistoryVersion
  pub definition : IsRedoneDefinition text earlier_version
  pub text_is_last : v ≡ history_version (deck_with_line text (deck_of_history_version earlier_version))
  pub place : uncovered ≡ deck_place_of_defined_key text (deck_of_history_version earlier_version)

-- a step is right about the line that it appends or removes, and no two variables have one name after it
abbrev pub IsUndoStepRight : Step → HistoryVersion → Type 0
IsUndoStepRight (Define text) v = IsRedoneDefinition text v
IsUndoStepRight (Undefine uncovered) v = IsLastRecordedDefinition uncovered v
IsUndoStepRight (Switch change) v = HasDistinctTextNames (history_settings_after_change change v.settings).vars
IsUndoStepRight _ v = ⊤

-- a step can be made in a version: the condition of its splice holds, and what it says is right
pub record CanMakeUndoStep (s : Step) (v : HistoryVersion) : Type 0 where
  pub splice : CanSpliceDeck (undo_step_splice s v) (deck_of_history_version v)
  pub step_right : IsUndoStepRight s v
