use Rattle.live_table.proofs.ReportedWords.{function_is_reported, one_is_reported, two_are_reported}
use Rattle.live_table.proofs.surroundings.Surroundings.meaning_of_targets.Goals as goal

pub returns-then-targets : goal.returns-then-targets
returns-then-targets c = λ u led.
    two_are_reported c.args.self.now u c.args.targets.first c.args.targets.second led c.if-targets.true
    c.outcome-outcome.result c.outcome.result c.outcome-outcome.ensures c.outcome.ensures

pub returns-in-Callable : goal.returns-in-Callable
returns-in-Callable c = λ u led.
    function_is_reported c.args.self.now u c.args.targets.first c.args.targets.second led c.if-targets.false
    c.outcome-outcome.result c.outcome-outcome.ensures c.in-Callable.is

pub returns-in_default : goal.returns-in_default
returns-in_default c = λ u led.
    one_is_reported c.args.self.now u c.args.targets.first c.args.targets.second led c.if-targets.false
    c.outcome-outcome.result c.outcome-outcome.ensures c.in_default.not-Callable
