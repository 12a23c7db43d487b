use Rattle.std.proofs.Common.{◌≡◌, length}
use Rattle.std.specs.FinMap.Entries.{find}
use Rattle.quantity.specs.Stores.{remaining_powers}
use Rattle.quantity.proofs.Names.{by_bytes}
use Rattle.quantity.proofs.power_lookup.exponent_in.Given as goal

-- a lookup in the remaining powers gives the result of a lookup in all powers
abbrev pub invariant-loop-power : goal.invariant-loop-power
invariant-loop-power l = find by_bytes l.name (remaining_powers l.powers) ≡ find by_bytes l.name
    (remaining_powers l.initial.powers)

abbrev pub decreases-loop-power : goal.decreases-loop-power
decreases-loop-power l = length (remaining_powers l.powers)
