use Rattle.deck.proofs.OneKeyList.{deck_key_list_law}
use Rattle.deck.proofs.laws.key_lists_are_one.Goals as goal

pub returns : goal.returns
returns c = deck_key_list_law
