use Rattle.std.proofs.Common.{◌∙◌}
use Rattle.quantity.specs.Stores.{stored_powers}
use Rattle.quantity.proofs.Single.{exponent_in_list, ordered_powers_list_of_map}
use Rattle.quantity.proofs.powers.Powers.exponent.Goals as goal

pub returns : goal.returns
returns c =
    let list = ordered_powers_list_of_map (stored_powers c.self.inside.store) _ _ c.self.invariant c.self.view_is
    c.walk.ensures in
    c.exponent_in.ensures ∙ exponent_in_list _ _ c.args.name.now list
