use Rattle.table_names.proofs.NewKeys as laws
use Rattle.table_names.proofs.number_laws.settling_law.Goals as goal

pub returns : goal.returns
returns c = laws.numbered_name_settling_law c.same_keys_law.ensures c.closed_law.ensures
