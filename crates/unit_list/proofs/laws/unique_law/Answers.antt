use Rattle.unit_list.proofs.Unique as unique
use Rattle.unit_list.proofs.laws.unique_law.Goals as goal

pub returns : goal.returns
returns c = unique.unique_split_law c.reduced_law.ensures
