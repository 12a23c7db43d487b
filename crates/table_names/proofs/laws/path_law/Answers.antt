use Rattle.table_names.proofs.Paths as laws
use Rattle.table_names.proofs.laws.path_law.Goals as goal

pub returns : goal.returns
returns c = laws.name_fault_path_law
