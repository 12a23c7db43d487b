use Rattle.std.proofs.Common.{◌+◌, ◌<◌, ◌^◌, lit<, arith}
use Rattle.frac128.proofs.TenPowers.{numeral_digit_too_wide, whole_ten_power_bound}
use Rattle.frac128.proofs.numeral_reader.append_digit.Goals as goal

pub returns-then-zeros-gt37 : goal.returns-then-zeros-gt37
returns-then-zeros-gt37 c = numeral_digit_too_wide _ _ _ c.if-number-eq0.false c.if-zeros-gt37.true

pub pow-requires : goal.pow-requires
pow-requires c =
    let big : 10 ^ 38 < 2 ^ 128 = lit< tt in
    let low = whole_ten_power_bound (c.args.zeros + 1) (omega (arith, c.if-zeros-gt37.false)) in
    omega arith
