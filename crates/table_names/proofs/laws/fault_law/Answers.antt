use Rattle.table_names.proofs.OneFault as laws
use Rattle.table_names.proofs.laws.fault_law.Goals as goal

pub returns : goal.returns
returns c = laws.words_name_fault_law
