use Rattle.table_names.proofs.MetFaults as laws
use Rattle.table_names.proofs.laws.meets_law.Goals as goal

pub returns : goal.returns
returns c = laws.meets_law
