use Rattle.name_lookup.proofs.Plans as laws
use Rattle.name_lookup.proofs.laws.targets_are_present.Goals as goal

pub returns : goal.returns
returns c = laws.targets_are_present
