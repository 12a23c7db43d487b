use Rattle.std.proofs.Common.{◌+◌, ◌∷◌, [], ◌++◌, inr, Ok, arith, take, get_or, sym, ap, subst, ◌∙◌}
use Rattle.std.proofs.lemmas.List.{take_all}
use Rattle.std.proofs.lemmas.List.Elements.{All-more, All-same}
use Rattle.frac128.specs.Steps.{fraction_quotient}
use Rattle.unit_list.specs.Amounts.{HasUnitDenominator, unit_counts_or_fault}
use Rattle.unit_list.specs.Splits.{part_by_unit}
use Rattle.unit_list.proofs.UnitSteps.{counting_units_end, counting_units_end_fault, counting_units_fault}
use Rattle.unit_list.proofs.UnitSteps.{counting_units_more, split_fault_passes_on}
use Rattle.unit_list.proofs.unit_counts.counts_of.Goals as goal

pub returns-in_err-part-clause-counts : goal.returns-in_err-part-clause-counts
returns-in_err-part-clause-counts c =
    split_fault_passes_on (λ counts. counts) _ _ _ c.from_residual.ensures.1 (inr (ap unit_counts_or_fault
    (counting_units_fault _ _ _ _ _ _ c.index-units-i.result c.in_err-part.field-0.0 c.loop-i.invariant.counting
    (omega arith) c.index-units-i.is
    (ap (part_by_unit c.loop-i.rest) (sym c.value.ensures.value) ∙ sym c.part_of.ensures ∙ c.in_err-part.was))))

pub loop-i-preserved : goal.loop-i-preserved
loop-i-preserved c = record {
  counting = rw (c.in_ok-push.ensures.ok, c.negated_if.ensures)
      (counting_units_more _ _ _ _ _ _ c.index-units-i.result c.in_ok-part.part c.loop-i.invariant.counting
      (omega arith) c.index-units-i.is
      (ap (part_by_unit c.loop-i.rest) (sym c.value.ensures.value) ∙ sym c.part_of.ensures ∙ c.in_ok-part.was));
  denominators = All-more HasUnitDenominator c.args.units.now c.loop-i.i c.index-units-i.result
      (omega arith) c.loop-i.invariant.denominators
      (subst HasUnitDenominator c.index-units-i.is c.value.ensures.kept.lowest_terms.den_positive);
}

pub returns-in_err-count-clause-counts : goal.returns-in_err-count-clause-counts
returns-in_err-count-clause-counts c =
    split_fault_passes_on (λ counts. counts) _ _ _ c.from_residual-in_err-count.ensures.1 (inr (ap unit_counts_or_fault
    (counting_units_end_fault _ _ _ _ _ _ c.index-units-last.result c.in_err-count.field-0.0 c.loop-i.invariant.counting
    (omega arith) c.index-units-last.is
    (ap (fraction_quotient c.loop-i.rest) (sym c.value-2.ensures.value) ∙ sym c.div.ensures ∙ c.in_err-count.was))))

pub returns-clause-counts : goal.returns-clause-counts
returns-clause-counts c =
    ap unit_counts_or_fault (counting_units_end _ _ _ _ _ _ c.index-units-last.result c.in_ok-count.count
    c.loop-i.invariant.counting
    (omega arith) c.index-units-last.is
    (ap (fraction_quotient c.loop-i.rest) (sym c.value-2.ensures.value) ∙ sym c.div.ensures ∙ c.in_ok-count.was))
    ∙ ap (λ x. Ok (c.loop-i.counts ++ x ∷ [])) (sym c.negated_if-2.ensures) ∙ ap Ok (sym c.in_ok-push-2.ensures.ok)

pub returns-clause-denominators : goal.returns-clause-denominators
returns-clause-denominators c =
    let all = All-more HasUnitDenominator c.args.units.now c.loop-i.i c.index-units-last.result
    (omega arith) c.loop-i.invariant.denominators
    (subst HasUnitDenominator
    (c.index-units-last.is ∙ ap (λ k. get_or c.args.units.now k c.index-units-last.result) (omega arith))
    c.value-2.ensures.kept.lowest_terms.den_positive) in
    All-same HasUnitDenominator c.args.units.now (take (c.loop-i.i + 1) c.args.units.now)
    (sym (take_all (c.loop-i.i + 1) c.args.units.now (omega arith))) all
