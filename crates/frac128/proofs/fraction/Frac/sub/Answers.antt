use Rattle.std.proofs.Common.{sym, ap, ◌∙◌}
use Rattle.frac128.specs.Sums.{fraction_sum}
use Rattle.frac128.proofs.Sums.{fraction_difference-opposite}
use Rattle.frac128.proofs.fraction.Frac.sub.Goals as goal

pub returns : goal.returns
returns c = c.add.ensures ∙ ap (fraction_sum c.args.self.now) c.negate.ensures
    ∙ sym (fraction_difference-opposite c.args.self.now c.args.other.now)
