-- The options for replies, from the command line.
use Rattle.std.specs.Prelude.{◌≤◌, ◌&&◌, ◌||◌, IfSome, not, unwrap_or}
use Rattle.command_line.specs.declared.fields.CommandLine.{CommandLine}
use Rattle.reply.specs.declared.options.Options.{Options}

-- eight digits by default; `--terse` stands for four flags; a compact reply is never verbose
unfoldable pub run_options : CommandLine → Options
run_options line = record {
  digits = unwrap_or line.digits 8;
  exact = line.exact;
  strict = line.strict || line.terse;
  one_line = line.one_line || line.terse;
  compact = line.compact || line.terse;
  quiet = line.quiet || line.terse;
  round = line.round;
  verbose = line.verbose && not (line.compact || line.terse);
}

-- if a number of digits is given, it is from 1 to 36
abbrev pub HasValidRunDigits : CommandLine → Type 0
HasValidRunDigits line = IfSome line.digits (λ n. (1 ≤ n) × (n ≤ 36))

-- if a column is given, it is from 1 to 65,535
abbrev pub HasValidRunColumn : CommandLine → Type 0
HasValidRunColumn line = IfSome line.column (λ n. (1 ≤ n) × (n ≤ 65535))

-- if a trial is given, it has 1 to 20,000 rounds
abbrev pub HasValidRunRounds : CommandLine → Type 0
HasValidRunRounds line = IfSome line.trial (λ n. (1 ≤ n) × (n ≤ 20000))
