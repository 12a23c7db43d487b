use Rattle.live_table.proofs.CachedNames as laws
use Rattle.live_table.proofs.laws.cached_names_law.Goals as goal

pub returns : goal.returns
returns c = laws.cached_names_law
