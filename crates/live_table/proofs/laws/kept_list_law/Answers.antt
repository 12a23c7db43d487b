use Rattle.live_table.proofs.KeptLists as laws
use Rattle.live_table.proofs.laws.kept_list_law.Goals as goal

pub returns : goal.returns
returns c = laws.cached_list_law
