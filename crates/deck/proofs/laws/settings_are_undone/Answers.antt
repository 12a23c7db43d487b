use Rattle.deck.proofs.SettingChanges.{settings_with_known_variable, settings_with_last_variable}
use Rattle.deck.proofs.SettingChanges.{settings_with_new_variable, settings_with_same_variable}
use Rattle.deck.proofs.laws.settings_are_undone.Goals as goal

pub returns : goal.returns
returns c = record {
  same_value = settings_with_same_variable;
  changes_value = settings_with_known_variable;
  new_variable = settings_with_new_variable;
  last_variable =
      settings_with_last_variable;
}
