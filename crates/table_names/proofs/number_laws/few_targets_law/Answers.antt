use Rattle.table_names.proofs.FewTargets as laws
use Rattle.table_names.proofs.number_laws.few_targets_law.Goals as goal

pub returns : goal.returns
returns c = laws.few_numbered_targets_law
