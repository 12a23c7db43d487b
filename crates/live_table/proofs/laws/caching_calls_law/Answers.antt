use Rattle.live_table.proofs.CachingCalls as laws
use Rattle.live_table.proofs.laws.caching_calls_law.Goals as goal

pub returns : goal.returns
returns c = laws.caching_calls_law c.edits_can_be_law.ensures c.table_keys_law.ensures
