use Rattle.std.proofs.Common.{◌<◌, ◌^◌, arith, lit<}
use Rattle.digits_print.proofs.Scales.{digit_power_up}
use Rattle.digits_print.proofs.decimal.power_of_ten.Goals as goal

pub pow-requires : goal.pow-requires
pow-requires c = let low = digit_power_up c.args.power 36 c.requires in let big : 10 ^ 36 < 2 ^ 128 = lit< tt in
    omega arith

pub returns-clause-fits : goal.returns-clause-fits
returns-clause-fits c = let low = digit_power_up c.args.power 36 c.requires in omega (arith, c.pow.ensures)
