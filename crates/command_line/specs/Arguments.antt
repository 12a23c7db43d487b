-- The rule of an argument of a command.
use Rattle.std.specs.Prelude.{ℕ, Option}
use Rattle.clap.specs.Words.{Rule, Text}
use Rattle.command_line.specs.declared.definition.Form.{Form}
use Rattle.command_line.specs.declared.definition.Form.TheVariants as form
use Rattle.command_line.specs.Rules.{flag_rule, option_rule, operand_rule, option_of_any_text, option_number_up_to}
use Rattle.command_line.specs.Rules.{repeated_option_rule}

-- the rule of an argument, given its name, its letter and its form
abbrev pub argument_rule : Text → Option ℕ → Form → Rule
argument_rule name letter form.Flag = flag_rule name letter
argument_rule name letter form.Text = option_rule name letter option_of_any_text
argument_rule name letter form.Texts = repeated_option_rule name letter
argument_rule name letter (form.Number high) = option_rule name letter (option_number_up_to high)
argument_rule name letter form.Operand = record (operand_rule name) { short = letter }
