use Rattle.std.proofs.Common.{◌≡◌, length}
use Rattle.quantity.specs.Amount.{powers_match}
use Rattle.quantity.specs.Factors.{exponent_in}
use Rattle.quantity.proofs.power_lookup.same_lists.Given as goal

-- the remaining powers match if and only if the lists do
abbrev pub invariant-loop-l : goal.invariant-loop-l
invariant-loop-l l = powers_match (exponent_in l.factor) l.left l.right
    ≡ powers_match (exponent_in l.factor) l.initial.left l.initial.right

abbrev pub decreases-loop-l : goal.decreases-loop-l
decreases-loop-l l = length l.left
