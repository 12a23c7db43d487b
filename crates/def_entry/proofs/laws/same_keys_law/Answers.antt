use Rattle.def_entry.proofs.SameKeys.{same_entry_keys}
use Rattle.def_entry.proofs.laws.same_keys_law.Goals as goal

pub returns : goal.returns
returns c = same_entry_keys
