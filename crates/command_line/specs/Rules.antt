-- The kinds of arguments of a command.
use Rattle.std.specs.Prelude.{◌∷◌, ℕ, List, [], Option, Some, None, codes, true, pos}
use Rattle.clap.specs.Words.{App, Rule, Text, new_rule, with_rule}
use Rattle.clap.specs.Simple.{new_shape}
use Rattle.clap.specs.declared.builder.action.ArgAction.TheVariants.{Append, Set, SetTrue}
use Rattle.clap.specs.declared.builder.value_parser.ValueParser.{ValueParser}
use Rattle.clap.specs.declared.builder.value_parser.ValueParser.TheVariants as vp

-- a flag, given its name and its letter
abbrev pub flag_rule : Text → Option ℕ → Rule
flag_rule name short =
    record (new_rule name) { long = Some name; short = short; action = Some SetTrue }

-- an option with one value, given its name and its letter
abbrev pub option_rule : Text → Option ℕ → Option ValueParser → Rule
option_rule name short parser = record (new_rule name) {
  long = Some name;
  short = short;
  action = Some Set;
  parser = parser;
}

-- an option that may be given several times, given its name and its letter
abbrev pub repeated_option_rule : Text → Option ℕ → Rule
repeated_option_rule name short =
    record (new_rule name) { long = Some name; short = short; action = Some Append }

-- an operand, which is a word without an option
abbrev pub operand_rule : Text → Rule
operand_rule name = record (new_rule name) { action = Some Set }

-- the letter of an option
abbrev pub option_letter : Text → Option ℕ
option_letter [] = None
option_letter (code ∷ rest) = Some code

-- any text
abbrev pub option_of_any_text : Option ValueParser
option_of_any_text = None

-- a whole number from 1 to high
abbrev pub option_number_up_to : ℕ → Option ValueParser
option_number_up_to high = Some (vp.Signed (pos 1) (pos high))

-- the command without arguments, which accepts no words for help or for the version
abbrev pub bare_command_app : App
bare_command_app = record {
  top = record (new_shape (codes "units")) {
    no_binary_name = true;
    disable_help_flag = true;
    disable_version_flag = true;
  };
  subs = [];
}

-- the command with each of these arguments added in turn
abbrev pub command_app_with_rules : App → List Rule → App
command_app_with_rules app [] = app
command_app_with_rules app (rule ∷ rest) = command_app_with_rules (with_rule app rule) rest
