-- The command of this program is one of those whose matches clap's definitions determine.
use Rattle.std.proofs.Common.{◌≡◌, true, refl}
use Rattle.clap.specs.Words.{is_simple, is_simple_and_free}
use Rattle.clap.proofs.OnLiterals.{clap_on_literals}
use Rattle.command_line.specs.Definition.{units_command_app}

-- the command is one of those that clap's short definition covers
pub units_command_app-is_simple : is_simple units_command_app ≡ true
unfolding clap_on_literals
units_command_app-is_simple = refl

-- the command accepts words in any order
pub units_command_app-is_free : is_simple_and_free units_command_app ≡ true
unfolding clap_on_literals
units_command_app-is_free = refl
