use Rattle.table_names.proofs.AffectedNumbers as laws
use Rattle.table_names.proofs.number_laws.affected_numbers_law.Goals as goal

pub returns : goal.returns
returns c = laws.affected_numbered_names_law
