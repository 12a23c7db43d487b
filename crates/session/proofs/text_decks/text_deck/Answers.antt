use Rattle.session.proofs.DeckSizes.{text_deck_is_made, text_deck_is_never_refused, text_deck_made_is_unique}
use Rattle.session.proofs.text_decks.text_deck.Goals as goal

pub returns-in-Ok-clause-is : goal.returns-in-Ok-clause-is
returns-in-Ok-clause-is c =
    text_deck_made_is_unique c.args.name.now c.args.text.now c.args.settings c.in-Ok.deck c.requires c.in-Ok.ensures

pub returns-in-Ok-clause-within : goal.returns-in-Ok-clause-within
returns-in-Ok-clause-within c = text_deck_is_made c.args.name.now c.args.text.now c.args.settings c.requires

pub returns-in-OutOfMemory-clause-within : goal.returns-in-OutOfMemory-clause-within
returns-in-OutOfMemory-clause-within c = text_deck_is_made c.args.name.now c.args.text.now c.args.settings c.requires

pub unreachable-requires : goal.unreachable-requires
unreachable-requires c =
    text_deck_is_never_refused c.args.name.now c.args.text.now c.args.settings c.in-Err.fault c.requires
    c.in_default.not-OutOfMemory c.in-Err.ensures
