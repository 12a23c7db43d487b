use Rattle.std.proofs.Common.{◌-◌}
use Rattle.digits_print.proofs.DigitSteps.{IsShortened}
use Rattle.digits_print.proofs.ratio_rounding.round_with_fewer_digits.Given as goal

abbrev pub invariant-loop-unit : goal.invariant-loop-unit
invariant-loop-unit l = IsShortened l.digits l.whole l.unit l.places

abbrev pub decreases-loop-unit : goal.decreases-loop-unit
decreases-loop-unit l = l.whole - l.unit
