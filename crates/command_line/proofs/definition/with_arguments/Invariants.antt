use Rattle.std.proofs.Common.{◌≡◌, drop, map}
use Rattle.clap.specs.Words.{app_of}
use Rattle.command_line.specs.Arguments.{argument_rule}
use Rattle.command_line.specs.Rules.{command_app_with_rules}
use Rattle.command_line.proofs.definition.with_arguments.Given as goal

-- the command with the remaining arguments
abbrev pub invariant-loop-name : goal.invariant-loop-name
invariant-loop-name l =
    command_app_with_rules (app_of l.command)
    (map (λ argument. argument_rule argument.0.now argument.1 argument.2) (drop l.name-index l.arguments))
    ≡ command_app_with_rules (app_of l.fn.command)
    (map (λ argument. argument_rule argument.0.now argument.1 argument.2) l.arguments)
