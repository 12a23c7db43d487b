use Rattle.std.proofs.Common.{◌≤◌, ◌<◌, ◌^◌, ℕ, pos, arith, lit<, ap, ◌∙◌}
use mir.Syntax.{w128}
use Rattle.std.proofs.lemmas.Int.{fits_signed_from_abs, to_z_pos}
use Rattle.frac128.proofs.TenPowers.{whole_ten_power_bound}
use Rattle.frac128.proofs.numeral.power_of_ten.Goals as goal

-- powers of ten up to the exponent 38 are below `2 ^ 127`
below : (k : ℕ) → k ≤ 38 → 10 ^ k < 2 ^ 127
below k h = let big : 10 ^ 38 < 2 ^ 127 = lit< tt in omega (arith, whole_ten_power_bound k h)

pub pow-requires : goal.pow-requires
pow-requires c = let low = below c.args.power c.if-power-le38.true in omega arith

pub overflow_cast-result : goal.overflow_cast-result
overflow_cast-result c = let low =
    below c.args.power c.if-power-le38.true
    in fits_signed_from_abs w128 (pos c.pow.result) (omega (arith, c.pow.ensures))

pub returns-then-power-le38 : goal.returns-then-power-le38
returns-then-power-le38 c =
    let low = below c.args.power c.if-power-le38.true in
    (c.if-power-le38.true, to_z_pos w128 c.pow.result (omega (arith, c.pow.ensures)) ∙ ap pos c.pow.ensures)
