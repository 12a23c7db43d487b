use Rattle.live_table.proofs.KeptNames as laws
use Rattle.live_table.proofs.laws.kept_law.Goals as goal

pub returns : goal.returns
returns c = laws.cached_after_events_law
