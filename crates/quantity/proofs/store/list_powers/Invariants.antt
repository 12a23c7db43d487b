use Rattle.std.proofs.Common.{◌≡◌, ◌++◌, map}
use Rattle.quantity.specs.Factors.{exponent_in}
use Rattle.quantity.specs.Merges.{unit_power_by}
use Rattle.quantity.proofs.store.list_powers.Given as goal

-- the copies so far and those of the rest are the copies of all powers
abbrev pub invariant-loop-name : goal.invariant-loop-name
invariant-loop-name l = l.items.items ++ map (unit_power_by (exponent_in l.factor)) l.name-iterator
    ≡ map (unit_power_by (exponent_in l.factor)) l.initial.name-iterator
