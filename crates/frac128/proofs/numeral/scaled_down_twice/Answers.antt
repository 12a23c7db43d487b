use Rattle.std.proofs.Common.{SFits, rules, ◌≡◌, ◌^◌, pos, arith, sym, ap, ◌∙◌}
use mir.Syntax.{w128}
use Rattle.std.proofs.lemmas.Int.{to_z-of_z, to_z_pos}
use Rattle.std.proofs.lemmas.Result.{err_from_is_err_and}
use Rattle.frac128.specs.Fraction.{whole_fraction}
use Rattle.frac128.specs.Steps.{fraction_quotient}
use Rattle.frac128.proofs.TenPowers.{ratio_by_ten_power_err, ratio_by_ten_power_ok, wide_ratio_ten_power_overflows}
use Rattle.frac128.proofs.numeral.scaled_down_twice.Goals as goal

pub returns-in_default : goal.returns-in_default
returns-in_default c = sym (wide_ratio_ten_power_overflows _ _ c.requires.some c.requires.fits c.in_default.ensures)

pub returns-in_err-new : goal.returns-in_err-new
returns-in_err-new c =
    let p = err_from_is_err_and c.from_residual.result c.from_residual.ensures.1 in
    let n_is = to_z_pos w128 c.args.n (omega (arith, c.requires.fits)) in
    rw (p.1, p.2) (sym (ratio_by_ten_power_err c.args.n c.args.power _ c.requires.fits
    (rw n_is at c.in_err-new.ensures)))

pub returns : goal.returns
returns c =
    let n_is = to_z_pos w128 c.args.n (omega (arith, c.requires.fits)) in
    let fits : SFits w128 c.in-Some.divisor = search rules in
    let divisor : c.whole.result ≡ whole_fraction (pos (10 ^ c.args.power)) = (simp to_z-of_z at c.whole.ensures)
    ∙ ap whole_fraction c.in-Some.ensures.1 in
    c.div.ensures ∙ ap (fraction_quotient c.in_ok-new.field-0) divisor
    ∙ ratio_by_ten_power_ok c.args.n c.args.power c.in_ok-new.field-0 (rw n_is at c.in_ok-new.ensures)
