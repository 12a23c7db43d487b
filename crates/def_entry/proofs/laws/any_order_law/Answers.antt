use Rattle.def_entry.proofs.OptionOrders.{any_option_order}
use Rattle.def_entry.proofs.laws.any_order_law.Goals as goal

pub returns : goal.returns
returns c = any_option_order
