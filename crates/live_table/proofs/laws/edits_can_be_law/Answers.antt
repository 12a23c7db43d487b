use Rattle.live_table.proofs.CallLists as laws
use Rattle.live_table.proofs.laws.edits_can_be_law.Goals as goal

pub returns : goal.returns
returns c = laws.possible_live_edits_law c.changes_are_computed.ensures
