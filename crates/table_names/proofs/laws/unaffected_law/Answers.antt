use Rattle.table_names.proofs.UnchangedKeys as laws
use Rattle.table_names.proofs.laws.unaffected_law.Goals as goal

pub returns : goal.returns
returns c = laws.unaffected_table_name_law
