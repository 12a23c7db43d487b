use Rattle.live_table.proofs.CallLists as laws
use Rattle.live_table.proofs.laws.call_list_law.Goals as goal

pub returns : goal.returns
returns c = laws.live_calls_law c.edits_can_be_law.ensures c.table_keys_law.ensures
