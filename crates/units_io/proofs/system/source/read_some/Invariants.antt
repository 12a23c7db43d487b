use Rattle.std.proofs.Common.{◌≡◌, ◌<◌, length}
use Rattle.units_io.proofs.system.source.read_some.Given as goal

abbrev pub invariant-loop : goal.invariant-loop
invariant-loop g l = record {
  room : 0 < length l.buf;
  same : g.R.Read.remaining l.reader ≡ g.R.Read.remaining l.initial.reader;
}
