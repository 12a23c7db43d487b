use Rattle.std.proofs.Common.{length}
use Rattle.quantity.specs.Stores.{remaining_powers}
use Rattle.quantity.proofs.Joins.{IsJoining}
use Rattle.quantity.proofs.power_join.join_all.Given as goal

abbrev pub invariant-loop-power : goal.invariant-loop-power
invariant-loop-power l =
    IsJoining l.factor l.initial.tree.entries (remaining_powers l.initial.right) l.tree.entries
    (remaining_powers l.right)

abbrev pub decreases-loop-power : goal.decreases-loop-power
decreases-loop-power l = length (remaining_powers l.right)
