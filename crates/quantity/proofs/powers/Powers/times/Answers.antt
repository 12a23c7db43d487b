use Rattle.std.proofs.Common.{refl}
use Rattle.std.proofs.lemmas.Result.{err_from_is_err_and}
use Rattle.quantity.specs.Stores.{stored_powers}
use Rattle.quantity.proofs.Single.{ordered_powers_list_of_map}
use Rattle.quantity.proofs.Steps.{product_powers_fault, product_powers_ok, product_powers_order}
use Rattle.quantity.proofs.powers.Powers.times.Goals as goal

pub invariant_of-result : goal.invariant_of-result
invariant_of-result c =
    let left = ordered_powers_list_of_map (stored_powers c.self.inside.store) _ _ c.self.invariant c.self.view_is refl
    in
    let right = ordered_powers_list_of_map (stored_powers c.other.inside.store) _ _ c.other.invariant c.other.view_is
    refl in
    product_powers_order c.reduced_law.ensures c.args.factor _ _ _ _ _ left right c.in_ok-store.ensures

pub returns : goal.returns
returns c =
    let left = ordered_powers_list_of_map (stored_powers c.self.inside.store) _ _ c.self.invariant c.self.view_is refl
    in
    let right = ordered_powers_list_of_map (stored_powers c.other.inside.store) _ _ c.other.invariant c.other.view_is
    refl in
    product_powers_ok c.reduced_law.ensures c.args.factor _ _ _ _ _ left right c.in_ok-store.ensures

pub returns-in_err-store : goal.returns-in_err-store
returns-in_err-store c =
    let error = err_from_is_err_and c.from_residual.result c.from_residual.ensures.1 in
    let left = ordered_powers_list_of_map (stored_powers c.self.inside.store) _ _ c.self.invariant c.self.view_is refl
    in
    let right = ordered_powers_list_of_map (stored_powers c.other.inside.store) _ _ c.other.invariant c.other.view_is
    refl in
    rw (error.1, error.2)
    (product_powers_fault c.reduced_law.ensures c.args.factor _ _ _ _ _ left right c.in_err-store.ensures)
