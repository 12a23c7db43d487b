use Rattle.std.proofs.Common.{◌≡◌}
use Rattle.units_io.proofs.system.sink.write_some.Given as goal

abbrev pub invariant-loop : goal.invariant-loop
invariant-loop g l = g.W.Write.contents l.writer ≡ g.W.Write.contents l.initial.writer
