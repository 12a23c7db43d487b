use Rattle.std.proofs.Common.{◌∙◌, ap, sym, subst}
use Rattle.quantity.specs.Merges.{ArePowersInOrder, exponents_in}
use Rattle.quantity.proofs.Copies.{plain_step_keeps_powers}
use Rattle.quantity.proofs.powers.Powers.copy.Goals as goal

pub invariant_of-result : goal.invariant_of-result
invariant_of-result c = subst ArePowersInOrder (sym (c.in_ok-store.ensures ∙ plain_step_keeps_powers _))
    c.self.invariant

pub returns : goal.returns
returns c = ap exponents_in (c.in_ok-store.ensures ∙ plain_step_keeps_powers _) ∙ c.self.view_is
