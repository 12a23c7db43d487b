use Rattle.std.proofs.Common.{◌-◌, ◌*◌, ◌^◌}
use Rattle.digits_print.proofs.DigitSteps.{IsLengthened}
use Rattle.digits_print.proofs.ratio_rounding.round_with_more_digits.Given as goal

abbrev pub invariant-loop-number : goal.invariant-loop-number
invariant-loop-number l = IsLengthened l.digits l.fn.top l.bottom l.number l.rest l.places

abbrev pub decreases-loop-number : goal.decreases-loop-number
decreases-loop-number l = 10 ^ l.digits * l.bottom - l.fn.top * 10 ^ l.places
