use Rattle.std.proofs.Common.{◌≡◌, ◌-◌, drop, length}
use Rattle.quantity.specs.Places.{power_place}
use Rattle.quantity.proofs.power_merge.place_of.Given as goal

-- the names before the index are lower
abbrev pub invariant-loop-index : goal.invariant-loop-index
invariant-loop-index l = power_place l.index l.name (drop l.index l.powers) ≡ power_place 0 l.name l.powers

abbrev pub decreases-loop-index : goal.decreases-loop-index
decreases-loop-index l = length l.powers - l.index
