use Rattle.live_table.proofs.Events as laws
use Rattle.live_table.proofs.laws.right_law.Goals as goal

pub returns : goal.returns
returns c = laws.right_cached_outcomes_law
