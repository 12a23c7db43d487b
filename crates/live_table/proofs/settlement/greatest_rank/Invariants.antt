use Rattle.std.proofs.Common.{◌≡◌, drop, max}
use Rattle.live_table.specs.Ranks.{greatest_node_step_rank}
use Rattle.live_table.proofs.settlement.greatest_rank.Given as goal

abbrev pub invariant-loop-step : goal.invariant-loop-step
invariant-loop-step l =
    max l.greatest (greatest_node_step_rank l.callees (drop l.step-index l.steps)) ≡ greatest_node_step_rank l.callees
    l.steps
