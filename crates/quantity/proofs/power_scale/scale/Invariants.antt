use Rattle.quantity.proofs.ScaleSteps.{IsScaling}
use Rattle.quantity.proofs.power_scale.scale.Given as goal

-- the products so far and those of the rest are those of the list
abbrev pub invariant-loop-power : goal.invariant-loop-power
invariant-loop-power l = IsScaling l.degree l.initial.power-iterator l.powers.items l.power-iterator
