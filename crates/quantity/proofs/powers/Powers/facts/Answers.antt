use Rattle.quantity.specs.Stores.{stored_powers}
use Rattle.quantity.proofs.Single.{ordered_powers_list_of_map}
use Rattle.quantity.proofs.powers.Powers.facts.Goals as goal

pub returns : goal.returns
returns c = (ordered_powers_list_of_map (stored_powers c.self.inside.store) _ _ c.self.invariant c.self.view_is
    c.walk.ensures).kept
