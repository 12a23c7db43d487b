-- The settings of a run.
use Rattle.std.specs.Prelude.{codes, unwrap_or}
use Rattle.units_io.specs.NamedValues.{NamedTexts}
use Rattle.command_line.specs.declared.fields.CommandLine.{CommandLine}
use Rattle.deck.specs.declared.settings.Settings.{Settings}

-- the locale on the command line, or `en_US`, and the variables of the environment
abbrev pub run_settings : CommandLine → NamedTexts → Settings
run_settings line vars = record { locale = unwrap_or line.locale (codes "en_US"); vars = vars }
