use Rattle.def_entry.proofs.EntryFaults.{entry_fault_not_of_memory}
use Rattle.def_entry.proofs.laws.entry_memory_law.Goals as goal

pub returns : goal.returns
returns c = entry_fault_not_of_memory
