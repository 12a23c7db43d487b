use Rattle.std.proofs.Common.{ap, sym, subst, ◌∙◌}
use Rattle.quantity.specs.Merges.{ArePowersInOrder, exponents_in}
use Rattle.quantity.proofs.Copies.{no_powers_in_order}
use Rattle.quantity.proofs.Single.{no_powers_empty_map}
use Rattle.quantity.proofs.powers.Powers.new.Goals as goal

pub invariant_of-result : goal.invariant_of-result
invariant_of-result c = subst ArePowersInOrder (sym c.new.ensures) no_powers_in_order

pub returns : goal.returns
returns c = ap exponents_in c.new.ensures ∙ no_powers_empty_map
