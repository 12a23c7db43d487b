use Rattle.std.proofs.Common.{◌∙◌, ap}
use Rattle.clap.specs.Words.{app_of, with_rule}
use Rattle.command_line.specs.Arguments.{argument_rule}
use Rattle.command_line.proofs.Arguments.{command_argument_added}
use Rattle.command_line.proofs.definition.with_arguments.Goals as goal

pub loop-name-preserved : goal.loop-name-preserved
loop-name-preserved c =
    command_argument_added (λ argument. argument_rule argument.0.now argument.1 argument.2)
    (app_of c.loop-name.command) (app_of c.in_ok-command.command) _
    c.args.arguments.now c.loop-name.name-index _ c.loop-name-test.true
    (c.in_ok-command.ensures.shape c.argument.ensures.local
    ∙ ap (with_rule (app_of c.loop-name.command)) c.argument.ensures.rule)
    c.loop-name.invariant
