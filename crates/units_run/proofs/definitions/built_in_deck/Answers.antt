use Rattle.units_run.proofs.BuiltInDeck.{built_in_deck_text_fits}
use Rattle.units_run.proofs.definitions.built_in_deck.Goals as goal

pub text_deck-requires : goal.text_deck-requires
text_deck-requires c = built_in_deck_text_fits c.built_in_text.result.now c.built_in_text.ensures.is
