use Rattle.std.proofs.Common.{take}
use Rattle.live_table.proofs.UsedNames.{AreUsed}
use Rattle.live_table.proofs.edge_creation.gather_targets.Given as goal

abbrev pub invariant-loop-step : goal.invariant-loop-step
invariant-loop-step l = AreUsed l.targets (take l.step-index l.steps)
