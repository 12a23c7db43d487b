use Rattle.live_table.proofs.CallLists as laws
use Rattle.live_table.proofs.laws.deck_kinds_law.Goals as goal

pub returns : goal.returns
returns c = laws.live_deck_kinds_law
