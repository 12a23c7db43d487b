use Rattle.std.proofs.Common.{◌≡◌, ◌*◌, ◌^◌, Ok, arith, pos, sym, ap, ◌∙◌}
use mir.Syntax.{w128}
use Rattle.std.proofs.lemmas.Int.{to_z_pos}
use Rattle.frac128.specs.Fraction.{whole_fraction}
use Rattle.frac128.specs.Steps.{ratio}
use Rattle.frac128.proofs.TenPowers.{whole_ratio, wide_whole_ten_power_overflows}
use Rattle.frac128.proofs.numeral.scaled_up.Goals as goal

pub returns-then-power-eq0 : goal.returns-then-power-eq0
returns-then-power-eq0 c =
    let n_is = to_z_pos w128 c.args.n (omega (arith, c.requires.fits)) in
    let once : c.args.n * 10 ^ 0 ≡ c.args.n = omega arith in
    let all : c.args.n * 10 ^ c.args.power ≡ c.args.n = ap (λ k. c.args.n * 10 ^ k) c.if-power-eq0.true ∙ once in
    ap Ok (c.whole.ensures ∙ ap whole_fraction n_is)
    ∙ sym (ap (λ m. ratio (pos m) (pos 1)) all ∙ whole_ratio c.args.n c.requires.fits)

pub returns-in-None : goal.returns-in-None
returns-in-None c = sym (wide_whole_ten_power_overflows _ _ c.requires.some c.in-None.ensures)
