use Rattle.deck_lines.proofs.KnownLoads.{known_load_law}
use Rattle.deck_lines.proofs.laws.known_files_determine_loads.Goals as goal

pub returns : goal.returns
returns c = known_load_law
