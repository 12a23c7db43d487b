use Rattle.table_names.proofs.AffectedKeys as laws
use Rattle.table_names.proofs.laws.affected_law.Goals as goal

pub returns : goal.returns
returns c = laws.affected_table_name_law
