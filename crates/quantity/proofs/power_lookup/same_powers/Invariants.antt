use Rattle.std.proofs.Common.{◌≡◌, length}
use Rattle.quantity.specs.Amount.{powers_match}
use Rattle.quantity.specs.Factors.{exponent_in}
use Rattle.quantity.specs.Stores.{remaining_powers}
use Rattle.quantity.proofs.power_lookup.same_powers.Given as goal

-- the remaining powers match if and only if the lists do
abbrev pub invariant-loop-power : goal.invariant-loop-power
invariant-loop-power l = powers_match (exponent_in l.factor) (remaining_powers l.left) (remaining_powers l.right)
    ≡ powers_match (exponent_in l.factor) (remaining_powers l.initial.left) (remaining_powers l.initial.right)

abbrev pub decreases-loop-power : goal.decreases-loop-power
decreases-loop-power l = length (remaining_powers l.left)
