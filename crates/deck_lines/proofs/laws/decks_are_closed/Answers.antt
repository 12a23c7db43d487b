use Rattle.deck_lines.proofs.ClosedFile.{deck_excerpt_has_blocks_closed}
use Rattle.deck_lines.proofs.laws.decks_are_closed.Goals as goal

pub returns : goal.returns
returns c = deck_excerpt_has_blocks_closed
