use Rattle.table_names.proofs.Lookups as laws
use Rattle.table_names.proofs.laws.lookup_law.Goals as goal

pub returns : goal.returns
returns c = laws.table_name_lookup_law
