use Rattle.live_table.proofs.NameQueries.{IsAsking}
use Rattle.live_table.proofs.live_table.LiveTable.settle_keys.Given as goal

abbrev pub invariant-loop-key : goal.invariant-loop-key
invariant-loop-key g l = IsAsking l.keys l.key-index l.fn.self l.self l.fn.steps l.steps
