use Rattle.std.proofs.Common.{◌∙◌}
use Rattle.deck.specs.Tables.{table_of_deck}
use Rattle.deck.proofs.OneKeyList.{deck_keys_hold_empty_text}
use Rattle.deck.proofs.deck.Deck.placed_keys.Goals as goal

pub returns-clause-keys : goal.returns-clause-keys
returns-clause-keys c = c.in_ok-keys.ensures.keys ∙ deck_keys_hold_empty_text (table_of_deck c.args.self.now)
