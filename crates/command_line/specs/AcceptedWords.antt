-- The words that form a command line of units.
use Rattle.std.specs.Prelude.{◌+◌, ◌&&◌, ◌||◌, ℕ, Bool, List, [], ◌∷◌, true, false, not, is_some, nat_le}
use Rattle.std.specs.Prelude.{if◌then◌else◌, codes}
use Rattle.std.specs.List.{list_all}
use Rattle.std.specs.Option.{option_map_or}
use Rattle.std.specs.Str.{bytes_eq, is_utf8}
use Rattle.clap.specs.Kinds.{Kinds}
use Rattle.clap.specs.Words.{Text, fault_of}
use Rattle.def_lines.specs.Lines.{line_content}
use Rattle.def_lines.specs.Words.{is_empty}
use Rattle.command_line.specs.Definition.{units_command_app}
use Rattle.command_line.specs.Fields.{command_line_of}
use Rattle.command_line.specs.declared.fields.CommandLine.{CommandLine}

-- there is no fault
abbrev pub has_no_usage_fault : Kinds → Bool
has_no_usage_fault [] = true
has_no_usage_fault (kind ∷ rest) = false

-- each word is UTF-8, and clap's definition finds no fault in them
unfoldable pub are_command_words_parsed : List Text → Bool
are_command_words_parsed words = list_all is_utf8 words && has_no_usage_fault (fault_of units_command_app words)

-- 1 if the argument is given, and 0 otherwise
abbrev pub one_if_command_argument : Bool → ℕ
one_if_command_argument stands = if stands then 1 else 0

-- how many of FROM, `--check` and `--trial` are given
abbrev pub command_work_count : CommandLine → ℕ
command_work_count line = one_if_command_argument (is_some line.from) + one_if_command_argument line.check
    + one_if_command_argument (is_some line.trial)

-- the TO word is neither blank nor `?`
abbrev pub is_target_word : Text → Bool
is_target_word to = not (is_empty (line_content to) || bytes_eq (line_content to) (codes "?"))

-- FROM is given, with a TO that is neither blank nor `?`
abbrev pub is_conversion_command : CommandLine → Bool
is_conversion_command line = is_some line.from && option_map_or is_target_word line.to false

-- `--column` is given only with a conversion, and `--header` only with `--column`
abbrev pub column_options_fit : CommandLine → Bool
column_options_fit line =
    (not (is_some line.column) || is_conversion_command line) && (not line.header || is_some line.column)

-- at most one of FROM, `--check` and `--trial` is given, and the options for columns are given only where they are
-- allowed
abbrev pub command_options_fit : CommandLine → Bool
command_options_fit line = nat_le (command_work_count line) 1 && column_options_fit line

-- clap accepts the words, and their arguments are compatible
unfoldable pub are_command_words_accepted : List Text → Bool
are_command_words_accepted words = are_command_words_parsed words && command_options_fit (command_line_of words)
