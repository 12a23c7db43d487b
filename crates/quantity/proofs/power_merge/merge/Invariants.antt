use Rattle.std.proofs.Common.{length}
use Rattle.quantity.proofs.Joins.{IsJoining}
use Rattle.quantity.proofs.power_merge.merge.Given as goal

abbrev pub invariant-loop-power : goal.invariant-loop-power
invariant-loop-power l =
    IsJoining l.factor l.initial.powers.items l.initial.right l.powers.items l.right

abbrev pub decreases-loop-power : goal.decreases-loop-power
decreases-loop-power l = length l.right
