use Rattle.std.proofs.Common.{refl}
use Rattle.live_table.proofs.exploration.store_steps.Goals as goal

pub returns : goal.returns
returns c = (c.index_mut.result.now.rank, refl)
