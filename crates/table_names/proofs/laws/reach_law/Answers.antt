use Rattle.table_names.proofs.ReachedKeys as laws
use Rattle.table_names.proofs.laws.reach_law.Goals as goal

pub returns : goal.returns
returns c = laws.table_name_reach_law
