use Rattle.std.proofs.Common.{◌≡◌, map, take}
use Rattle.quantity.specs.Factors.{exponent_in}
use Rattle.quantity.specs.Merges.{unit_power_by}
use Rattle.quantity.proofs.power_merge.copies.Given as goal

-- the copies so far are those of the powers so far
abbrev pub invariant-loop-power : goal.invariant-loop-power
invariant-loop-power l = l.copies.items ≡ map (unit_power_by (exponent_in l.factor)) (take l.power-index l.powers)
