-- The request in the words of a command line of units.
use Rattle.std.specs.Prelude.{ℕ, Bool, IfSome, List, Option, codes, false, option_map}
use Rattle.std.specs.Option.{option_map_or}
use Rattle.std.specs.Str.{bytes_eq}
use Rattle.clap.specs.Words.{Row, Text, first_of, matches_of}
use Rattle.command_line.specs.Definition.{units_command_app}
use Rattle.command_line.specs.Numbers.{IsOptionNumberUpTo, option_decimal_number}
use Rattle.command_line.specs.declared.fields.CommandLine.{CommandLine}

-- the flag is among the words
abbrev pub has_command_flag : Text → List Row → Bool
has_command_flag name rows =
    option_map_or (λ text. bytes_eq text (codes "true")) (first_of name rows) false

-- the number given for an option, if the option is among the words
abbrev pub option_number : Text → List Row → Option ℕ
option_number name rows = option_map option_decimal_number (first_of name rows)

-- the value of the option, if it is given, is a whole number from 1 to high
abbrev pub HasOptionNumberUpTo : Text → ℕ → List Row → Type 0
HasOptionNumberUpTo name high rows = IfSome (first_of name rows) (IsOptionNumberUpTo high)

-- the fields, each taken from the row of its argument
abbrev pub command_line_fields : List Row → CommandLine
command_line_fields rows = record {
  digits = option_number (codes "digits") rows;
  exact = has_command_flag (codes "exact") rows;
  one_line = has_command_flag (codes "one-line") rows;
  compact = has_command_flag (codes "compact") rows;
  terse = has_command_flag (codes "terse") rows;
  quiet = has_command_flag (codes "quiet") rows;
  strict = has_command_flag (codes "strict") rows;
  round = has_command_flag (codes "round") rows;
  verbose = has_command_flag (codes "verbose") rows;
  check = has_command_flag (codes "check") rows;
  file = first_of (codes "file") rows;
  locale = first_of (codes "locale") rows;
  trial = option_number (codes "trial") rows;
  column = option_number (codes "column") rows;
  header = has_command_flag (codes "header") rows;
  from = first_of (codes "from") rows;
  to = first_of (codes "to") rows;
}

-- the request in the words, by clap's definition of their matches
unfoldable pub command_line_of : List Text → CommandLine
command_line_of words = command_line_fields (matches_of units_command_app words)
