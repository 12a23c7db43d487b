use Rattle.std.proofs.Common.{Some, ap, refl}
use Rattle.stream_run.proofs.PrintedBytes.{known_run_prints}
use Rattle.stream_run.proofs.in_memory.run_in_memory.Goals as goal

pub returns : goal.returns
returns g c = record {
  printed = λ m is stated.
      known_run_prints _ _ m _ _ _ _ _ _ _ _ _ _ _ _ _ _ _ _ refl (ap Some c.new.ensures.items)
      (ap Some c.new-2.ensures.items) is c.into_writer.ensures c.into_writer-2.ensures c.run_over-ran.ensures.run
      stated;
}
