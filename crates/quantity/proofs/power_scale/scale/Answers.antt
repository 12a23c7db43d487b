use Rattle.std.proofs.Common.{All, ap, subst, sym, ◌∙◌}
use Rattle.std.proofs.lemmas.Result.{err_from_is_err_and}
use Rattle.frac128.specs.Fraction.{Fraction}
use Rattle.quantity.specs.Exponents.{IsUnitPower}
use Rattle.quantity.specs.Merges.{UnitPowers, are_exponents, scaled_powers}
use Rattle.quantity.proofs.Ranges.{put_power_fault_passes_on}
use Rattle.quantity.proofs.ScaleSteps.{scaling_powers_end, scaling_powers_fault, scaling_powers_more}
use Rattle.quantity.proofs.ScaleSteps.{scaling_powers_start}
use Rattle.quantity.proofs.power_scale.scale.Goals as goal

pub loop-power-init : goal.loop-power-init
loop-power-init c =
    let gives = c.into_iter-power-iterator.ensures.into_iter_gives in
    scaling_powers_start c.args.degree.now _ _ c.in_ok-powers.ensures.items
    (subst (All IsUnitPower) (sym gives.0) c.requires)

pub loop-power-preserved : goal.loop-power-preserved
loop-power-preserved c =
    scaling_powers_more _ _ _ c.loop-power.power-iterator _ _ c.in-Some.power c.loop-power.invariant
    c.in-Some.ensures.steps c.in_ok-put_product.ensures

pub returns-in_err-put_product : goal.returns-in_err-put_product
returns-in_err-put_product c =
    let error = err_from_is_err_and c.from_residual-in_err-put_product.result
    c.from_residual-in_err-put_product.ensures.1 in
    let by : Fraction = c.args.degree.now in
    let all = c.into_iter-power-iterator.ensures.into_iter_gives.0 in
    rw (error.1, error.2)
    (put_power_fault_passes_on _ _ _ _ _ c.in_err-put_product.ensures (λ fails.
    ap (λ (es : UnitPowers). are_exponents (scaled_powers by es)) (sym all)
    ∙ scaling_powers_fault c.reduced_law.ensures by _ _ c.loop-power.power-iterator _ c.in-Some.power
    c.denominator_facts.ensures c.loop-power.invariant c.in-Some.ensures.steps fails))

pub returns : goal.returns
returns c =
    scaling_powers_end c.args.degree.now _ _ c.loop-power.power-iterator _ c.loop-power.invariant
    c.in-None.ensures.steps.0 c.into_iter-power-iterator.ensures.into_iter_gives.0
