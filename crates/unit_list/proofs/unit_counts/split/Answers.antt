use Rattle.std.proofs.Common.{◌∙◌, inr, refl}
use Rattle.std.proofs.lemmas.List.{length-map}
use Rattle.unit_list.proofs.UnitSteps.{faultless_units_are_units, split_begun_by_parts, split_begun_counts}
use Rattle.unit_list.proofs.UnitSteps.{split_begun_ends, split_begun_fault, split_fault_passes_on}
use Rattle.unit_list.proofs.UnitSteps.{split_fault_passes_on_as_equal, unit_counts_ok, unit_list_fault_ends_split}
use Rattle.unit_list.proofs.unit_counts.split.Goals as goal

pub returns-in-Some-clause-computed : goal.returns-in-Some-clause-computed
returns-in-Some-clause-computed c =
    inr (unit_list_fault_ends_split c.args.round c.args.q.now c.args.units.now c.in-Some.fault c.in-Some.ensures)

pub returns-in_err-amount-clause-computed : goal.returns-in_err-amount-clause-computed
returns-in_err-amount-clause-computed c =
    let begun = split_begun_by_parts _ _ _ _ _ _ _ _ _ c.in_default.ensures c.requires c.value-number.ensures.value refl
    c.index-units-units.is c.value-last.ensures.value c.magnitude.ensures c.rounded_if.ensures in
    split_fault_passes_on (λ split. split.counts) _ _ _ c.from_residual.ensures.1
    (inr (split_begun_fault _ _ _ _ _ c.in_err-amount.field-0.0 begun c.in_err-amount.was))

pub returns-in_err-counts-clause-computed : goal.returns-in_err-counts-clause-computed
returns-in_err-counts-clause-computed c =
    let begun = split_begun_by_parts _ _ _ _ _ _ _ _ _ c.in_default.ensures c.requires c.value-number.ensures.value
    c.is_negative.ensures
    c.index-units-units.is c.value-last.ensures.value c.magnitude.ensures c.rounded_if.ensures in
    split_fault_passes_on_as_equal (λ split. split.counts) _ _ _ _ c.from_residual-in_err-counts.ensures.1
    (split_begun_ends _ _ _ _ _ _ begun c.in_ok-amount.was) c.in_err-counts.ensures.counts

pub returns-clause-computed : goal.returns-clause-computed
returns-clause-computed c =
    let begun = split_begun_by_parts _ _ _ _ _ _ _ _ _ c.in_default.ensures c.requires c.value-number.ensures.value
    c.is_negative.ensures
    c.index-units-units.is c.value-last.ensures.value c.magnitude.ensures c.rounded_if.ensures in
    split_begun_ends _ _ _ _ _ _ begun c.in_ok-amount.was ∙ c.in_ok-counts.ensures.counts

pub returns-clause-counted : goal.returns-clause-counted
returns-clause-counted c =
    let begun = split_begun_by_parts _ _ _ _ _ _ _ _ _ c.in_default.ensures c.requires c.value-number.ensures.value
    c.is_negative.ensures
    c.index-units-units.is c.value-last.ensures.value c.magnitude.ensures c.rounded_if.ensures in
    c.split_law.ensures c.args.round c.args.q.now.value _ _ c.value-number.ensures.kept.lowest_terms.den_positive
    (rw length-map c.requires)
    (faultless_units_are_units c.args.q.now c.args.units.now c.in_default.ensures c.in_ok-counts.ensures.denominators)
    (split_begun_counts _ _ _ _ _ _ begun c.in_ok-amount.was ∙ unit_counts_ok _ _ c.in_ok-counts.ensures.counts)
