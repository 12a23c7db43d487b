-- Changes of one setting.
use Rattle.std.specs.Prelude.{◌≡◌, ◌-◌, ℕ, List, length, take, slice_get, Some, None}
use Rattle.units_io.specs.NamedValues.{HasDistinctTextNames, named_text, with_named_text}
use Rattle.deck.specs.declared.settings.Settings.{Settings}

-- settings with this value of a variable, and settings with this locale
abbrev pub settings_with_variable : Settings → (name value : List ℕ) → Settings
settings_with_variable settings name value = record settings { vars = with_named_text settings.vars name value }

abbrev pub settings_with_locale : Settings → (locale : List ℕ) → Settings
settings_with_locale settings locale = record settings { locale = locale }

-- settings without the last variable, if there is one
abbrev pub settings_without_last_variable : Settings → Settings
settings_without_last_variable settings = record settings { vars = take (length settings.vars - 1) settings.vars }

-- law: setting a variable to the value that it has changes nothing; setting a variable that had a value is undone by
-- setting that value, and setting one that had none by removing the last variable; removing the last variable is undone
-- by setting it again
pub record SettingLaw : Type 0 where
  pub same_value : (s : Settings) (name value : List ℕ) → named_text s.vars name ≡ Some value
      → settings_with_variable s name value ≡ s
  pub changes_value : (s : Settings) (name value before : List ℕ) → named_text s.vars name ≡ Some before
      → settings_with_variable (settings_with_variable s name value) name before ≡ s
  pub new_variable : (s : Settings) (name value : List ℕ) → named_text s.vars name ≡ None
      → settings_without_last_variable (settings_with_variable s name value) ≡ s
  pub last_variable : (s : Settings) (name value : List ℕ) → slice_get s.vars (length s.vars - 1) ≡ Some (name, value)
      → HasDistinctTextNames s.vars → settings_with_variable (settings_without_last_variable s) name value ≡ s
