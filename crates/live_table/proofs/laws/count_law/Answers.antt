use Rattle.live_table.proofs.SettleCounts as laws
use Rattle.live_table.proofs.laws.count_law.Goals as goal

pub returns : goal.returns
returns c = laws.settled_count_law
