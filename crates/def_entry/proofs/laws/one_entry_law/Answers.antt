use Rattle.def_entry.proofs.WrittenEntries.{one_entry}
use Rattle.def_entry.proofs.laws.one_entry_law.Goals as goal

pub returns : goal.returns
returns c = one_entry
