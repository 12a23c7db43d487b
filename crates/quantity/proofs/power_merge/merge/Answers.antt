use Rattle.std.proofs.lemmas.Result.{err_from_is_err_and}
use Rattle.quantity.proofs.Copies.{no_powers_by_length}
use Rattle.quantity.proofs.Joins.{joining_powers_end, joining_powers_fault, joining_powers_first, joining_powers_next}
use Rattle.quantity.proofs.Joins.{powers_fault_passes_on}
use Rattle.quantity.proofs.power_merge.merge.Goals as goal

pub join-requires-clause-power : goal.join-requires-clause-power
join-requires-clause-power c =
    joining_powers_first c.args.factor _ _ c.loop-power.powers.items c.loop-power.right.now c.in-Some.rest.now
    c.in-Some.power.now c.loop-power.invariant c.in-Some.ensures.cases.0

pub loop-power-preserved : goal.loop-power-preserved
loop-power-preserved c =
    joining_powers_next c.reduced_law.ensures c.args.factor _ _ c.loop-power.powers.items c.loop-power.right.now
    c.join.new.powers.items c.in-Some.rest.now c.in-Some.power.now c.loop-power.invariant
    c.in-Some.ensures.cases.0 c.in_ok-join.ensures

pub returns-in_err-join : goal.returns-in_err-join
returns-in_err-join c =
    let error = err_from_is_err_and c.from_residual.result c.from_residual.ensures.1 in
    rw (error.1, error.2)
    (powers_fault_passes_on _ _ _ c.in_err-join.ensures
    (joining_powers_fault c.reduced_law.ensures c.args.factor _ _ c.loop-power.powers.items c.loop-power.right.now
    c.in-Some.rest.now c.in-Some.power.now c.loop-power.invariant c.in-Some.ensures.cases.0))

pub returns : goal.returns
returns c = joining_powers_end c.args.factor _ _ c.loop-power.powers.items c.loop-power.right.now c.loop-power.invariant
    (no_powers_by_length c.loop-power.right.now c.in_default.ensures.cases)
