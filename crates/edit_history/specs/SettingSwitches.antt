-- Applying changes to settings.
use Rattle.std.specs.Prelude.{◌++◌, ℕ, List, take, drop, Option, Some, None}
use Rattle.units_io.specs.NamedValues.{NamedTexts}
use Rattle.deck.specs.declared.settings.Settings.{Settings}
use Rattle.edit_history.specs.declared.settings_change.SettingsChange.{SettingsChange}

-- the locale of a change, or the old one if the change has none
abbrev pub history_locale_after_change : Option (List ℕ) → List ℕ → List ℕ
history_locale_after_change None locale = locale
history_locale_after_change (Some other) locale = other

-- the variables, with those from a place up to another replaced by others
abbrev pub history_exchanged_variables : (first end : ℕ) (put vars : NamedTexts) → NamedTexts
history_exchanged_variables first end put vars = take first vars ++ (put ++ drop end vars)

-- the settings after a change
abbrev pub history_settings_after_change : SettingsChange → Settings → Settings
history_settings_after_change c s =
    record {
      locale = history_locale_after_change c.locale s.locale;
      vars = history_exchanged_variables c.first c.end
          c.put s.vars;
    }
