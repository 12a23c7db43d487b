use Rattle.std.proofs.Common.{refl}
use Rattle.live_table.proofs.laws.event_examples.Goals as goal

pub returns : goal.returns
returns c = record {
  after_query_alone = refl;
  came = refl;
  kept_after_shadowing = refl;
  after_undo = refl;
  after_cycle = refl;
  broken = refl;
}
