use Rattle.std.proofs.lemmas.Result.{err_from_is_err_and}
use Rattle.quantity.specs.Factors.{exponent_in}
use Rattle.quantity.specs.Merges.{UnitPowers, merge_of_powers}
use Rattle.quantity.specs.Stores.{stored_powers}
use Rattle.quantity.proofs.Joins.{ordered_powers_have_no_fault, powers_fault_passes_on}
use Rattle.quantity.proofs.store.merge_list.Goals as goal

pub returns-in_err-left : goal.returns-in_err-left
returns-in_err-left c =
    let error = err_from_is_err_and c.from_residual-in_err-left.result c.from_residual-in_err-left.ensures.1 in
    let all : UnitPowers = merge_of_powers (exponent_in c.args.factor) c.args.left.items
    (stored_powers c.args.other.now) in
    rw (error.1, error.2)
    (powers_fault_passes_on c.as_slice.result.now all _ c.in_err-left.ensures
    (ordered_powers_have_no_fault c.args.left.items c.as_slice.result.now all c.requires.left c.as_slice.ensures))
