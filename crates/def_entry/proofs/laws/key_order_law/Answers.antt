use Rattle.def_entry.proofs.SameKeys.{key_order}
use Rattle.def_entry.proofs.laws.key_order_law.Goals as goal

pub returns : goal.returns
returns c = key_order
