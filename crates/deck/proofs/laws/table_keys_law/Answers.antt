use Rattle.deck.proofs.OneKeyList.{deck_table_keys_law}
use Rattle.deck.proofs.laws.table_keys_law.Goals as goal

pub returns : goal.returns
returns c = deck_table_keys_law
