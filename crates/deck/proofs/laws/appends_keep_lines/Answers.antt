use Rattle.deck.proofs.KnownLoads.{appended_deck_lines_law}
use Rattle.deck.proofs.laws.appends_keep_lines.Goals as goal

pub returns : goal.returns
returns c = appended_deck_lines_law c.loads_keep_lines.ensures
