use Rattle.unit_list.proofs.SignedCounts as laws
use Rattle.unit_list.proofs.laws.split_law.Goals as goal

pub returns : goal.returns
returns c = laws.unit_split_law c.reduced_law.ensures c.lcm_law.ensures
