use Rattle.def_entry.proofs.WrittenEntries.{entries_are_as_written}
use Rattle.def_entry.proofs.laws.entry_law.Goals as goal

pub returns : goal.returns
returns c = entries_are_as_written
