use Rattle.def_entry.proofs.OptionRuns.{options_read}
use Rattle.def_entry.proofs.laws.options_law.Goals as goal

pub returns : goal.returns
returns c = options_read
