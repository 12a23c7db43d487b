-- Changes of settings, and back.
use Rattle.std.proofs.Common.{◌≡◌, [], ℕ, List, false, sym, ap, subst, ◌∙◌, arith}
use Rattle.units_io.specs.NamedValues.{HasDistinctTextNames, NamedTexts}
use Rattle.deck_lines.specs.ClosedBlocks.{AreBlocksClosed}
use Rattle.deck_lines.specs.Limits.{pass_store_limit}
use Rattle.deck.specs.Decks.{DeckContents}
use Rattle.deck.specs.Edits.{deck_after_switching}
use Rattle.deck.specs.declared.settings.Settings.{Settings}
use Rattle.edit_history.specs.SettingSwitches.{history_settings_after_change}
use Rattle.edit_history.specs.declared.settings_change.SettingsChange.{SettingsChange}
use Rattle.edit_history.specs.declared.step.Step.TheVariants.{Switch}
use Rattle.edit_history.proofs.GoingBack.{IsMade, equal_history_versions}
use Rattle.edit_history.proofs.Noting.{LeadsBack}
use Rattle.edit_history.proofs.Stepping.{undo_lines_can_be_exchanged}

-- settings with these parts
abbrev settings_of : List ℕ → NamedTexts → Settings
settings_of locale vars = record { locale = locale; vars = vars }

pub equal_history_settings : (locale other : List ℕ) (vars others : NamedTexts) → locale ≡ other → vars ≡ others
    → settings_of locale vars ≡ settings_of other others
equal_history_settings locale other vars others e f = λ i. record { locale = e i; vars = f i }

-- after other settings are put in force, the change to the previous ones leads back
pub undo_switch_leads_back : (back : SettingsChange) (settings : Settings) (before after : DeckContents)
    → after ≡ deck_after_switching settings before
    → history_settings_after_change back settings ≡ before.settings → HasDistinctTextNames before.settings.vars
    → AreBlocksClosed before.lines → pass_store_limit before.lines ≡ false → LeadsBack (Switch back) before after
undo_switch_leads_back back settings before after is gives distinct closed within = record {
  can = record {
    splice = undo_lines_can_be_exchanged 0 0 [] after.lines before.lines (omega arith) lines closed within;
    step_right = subst (λ (s : Settings). HasDistinctTextNames s.vars) (sym again) distinct;
  };
  again = equal_history_versions after.lines before.lines (history_settings_after_change back after.settings)
      before.settings lines again;
}
  where
    lines : after.lines ≡ before.lines
    lines = ap (λ (d : DeckContents). d.lines) is

    again : history_settings_after_change back after.settings ≡ before.settings
    again = ap (λ (d : DeckContents). history_settings_after_change back d.settings) is ∙ gives

-- a change of settings was made, and the step back is its change back
pub undo_change_is_made : (change back : SettingsChange) (settings : Settings) (old new : DeckContents)
    → settings ≡ history_settings_after_change change old.settings → new ≡ deck_after_switching settings old
    → LeadsBack (Switch back) old new
    → IsMade (Switch change) (Switch back) old new
undo_change_is_made change back settings old new settings_are is leads = record {
  made = is ∙ ap (λ (s : Settings). deck_after_switching s old) settings_are;
  can = leads.can;
  again = leads.again;
}
