use Rattle.table_names.proofs.SameFault as laws
use Rattle.table_names.proofs.number_laws.numbered_fault_law.Goals as goal

pub returns : goal.returns
returns c =
    laws.numbered_name_fault_law c.same_keys_law.ensures c.fault_law.ensures c.path_law.ensures
    c.fault_law-2.ensures c.path_law-2.ensures
