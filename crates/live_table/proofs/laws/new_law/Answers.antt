use Rattle.live_table.proofs.New as laws
use Rattle.live_table.proofs.laws.new_law.Goals as goal

pub returns : goal.returns
returns c = laws.newly_settled_law
