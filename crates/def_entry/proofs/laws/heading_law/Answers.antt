use Rattle.def_entry.proofs.WrittenHeadings.{headings}
use Rattle.def_entry.proofs.laws.heading_law.Goals as goal

pub returns : goal.returns
returns c = headings
