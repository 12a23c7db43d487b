use Rattle.std.proofs.Common.{◌==◌, ap, ◌∙◌}
use Rattle.quantity.specs.Stores.{stored_powers}
use Rattle.quantity.proofs.Single.{ordered_powers_len}
use Rattle.quantity.proofs.powers.Powers.is_empty.Goals as goal

pub returns : goal.returns
returns c = c.is_empty.ensures
    ∙ ap (λ n. n == 0) (ordered_powers_len (stored_powers c.self.inside.store) c.args.self.now c.self.invariant
    c.self.view_is)
