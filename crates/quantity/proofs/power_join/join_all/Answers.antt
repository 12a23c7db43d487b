use Rattle.std.proofs.lemmas.Result.{err_from_is_err_and}
use Rattle.quantity.specs.Stores.{power_of_walk_entry, remaining_powers}
use Rattle.quantity.proofs.Joins.{joining_powers_end, joining_powers_fault, joining_powers_next, powers_fault_passes_on}
use Rattle.quantity.proofs.power_join.join_all.Goals as goal

pub loop-power-preserved : goal.loop-power-preserved
loop-power-preserved c =
    joining_powers_next c.reduced_law.ensures c.args.factor _ _ c.loop-power.tree.entries
    (remaining_powers c.loop-power.right)
    c.join.new.tree.entries (remaining_powers c.next.new.self) (power_of_walk_entry c.in-Some.power)
    c.loop-power.invariant
    c.in-Some.ensures c.in_ok-join.ensures

pub returns-in_err-join : goal.returns-in_err-join
returns-in_err-join c =
    let error = err_from_is_err_and c.from_residual.result c.from_residual.ensures.1 in
    rw (error.1, error.2)
    (powers_fault_passes_on _ _ _ c.in_err-join.ensures
    (joining_powers_fault c.reduced_law.ensures c.args.factor _ _ c.loop-power.tree.entries
    (remaining_powers c.loop-power.right)
    (remaining_powers c.next.new.self) (power_of_walk_entry c.in-Some.power) c.loop-power.invariant c.in-Some.ensures))

pub returns : goal.returns
returns c = joining_powers_end c.args.factor _ _ c.loop-power.tree.entries (remaining_powers c.loop-power.right)
    c.loop-power.invariant
    c.in_default.ensures
