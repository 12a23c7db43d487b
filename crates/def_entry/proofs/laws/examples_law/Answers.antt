use Rattle.def_entry.proofs.Examples.{entry_examples}
use Rattle.def_entry.proofs.laws.examples_law.Goals as goal

pub returns : goal.returns
returns c = entry_examples
