use Rattle.deck.proofs.KnownLoads.{known_deck_append_law}
use Rattle.deck.proofs.laws.known_files_determine_appends.Goals as goal

pub returns : goal.returns
returns c = known_deck_append_law c.known_files_determine_loads.ensures
