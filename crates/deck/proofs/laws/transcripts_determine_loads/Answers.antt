use Rattle.deck_lines.specs.Transcripts.{files_model}
use Rattle.deck.proofs.LoadConsequences.{deck_load_law}
use Rattle.deck.proofs.laws.transcripts_determine_loads.Goals as goal

pub returns : goal.returns
returns g c =
    deck_load_law (files_model g.F.Files.files g.F.Files.faults g.F.Files.is_fetch)
    c.known_files_determine_loads.ensures c.failed_fetches_end_loads.ensures.failed
