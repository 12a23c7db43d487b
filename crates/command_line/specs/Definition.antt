-- The command of units in terms of clap's own definitions.
use Rattle.std.specs.Prelude.{◌∷◌, ◌++◌, List, [], None, codes}
use Rattle.clap.specs.Words.{App, Rule}
use Rattle.command_line.specs.Rules.{bare_command_app, flag_rule, option_letter, option_number_up_to}
use Rattle.command_line.specs.Rules.{option_of_any_text, command_app_with_rules, operand_rule, option_rule}

-- the options that determine the form of a reply
abbrev pub reply_option_rules : List Rule
reply_option_rules = option_rule (codes "digits") (option_letter (codes "d")) (option_number_up_to 36)
    ∷ flag_rule (codes "exact") None
    ∷ flag_rule (codes "one-line") (option_letter (codes "1"))
    ∷ flag_rule (codes "compact") None
    ∷ flag_rule (codes "terse") (option_letter (codes "t"))
    ∷ []

-- the flags that determine how the program works
abbrev pub mode_flag_rules : List Rule
mode_flag_rules = flag_rule (codes "quiet") (option_letter (codes "q"))
    ∷ flag_rule (codes "strict") (option_letter (codes "s"))
    ∷ flag_rule (codes "round") (option_letter (codes "r"))
    ∷ flag_rule (codes "verbose") (option_letter (codes "v"))
    ∷ flag_rule (codes "check") (option_letter (codes "c"))
    ∷ []

-- the options for records of fields
abbrev pub column_option_rules : List Rule
column_option_rules = option_rule (codes "column") None (option_number_up_to 65535)
    ∷ flag_rule (codes "header") None
    ∷ []

-- the inputs of the program
abbrev pub source_option_rules : List Rule
source_option_rules = option_rule (codes "file") (option_letter (codes "f")) option_of_any_text
    ∷ option_rule (codes "locale") (option_letter (codes "l")) option_of_any_text
    ∷ option_rule (codes "trial") None (option_number_up_to 20000)
    ∷ operand_rule (codes "from")
    ∷ operand_rule (codes "to")
    ∷ []

-- the command of units
abbrev pub units_command_app : App
units_command_app = command_app_with_rules bare_command_app
    (reply_option_rules ++ mode_flag_rules ++ column_option_rules ++ source_option_rules)
