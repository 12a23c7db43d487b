use Rattle.live_table.proofs.Events as laws
use Rattle.live_table.proofs.laws.order_law.Goals as goal

pub returns : goal.returns
returns c = laws.live_event_order_law
