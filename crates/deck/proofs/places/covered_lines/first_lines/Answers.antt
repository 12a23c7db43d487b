use Rattle.std.proofs.Common.{subst}
use Rattle.deck.specs.CoveredLines.{MayCoverDefinitions}
use Rattle.deck.proofs.KnownCover.{may_cover_definitions_front}
use Rattle.deck.proofs.places.covered_lines.first_lines.Goals as goal

pub returns : goal.returns
returns c = λ count ds less below are.
    may_cover_definitions_front c.args.len count ds c.in-Some.lines c.truncate.new.self less below
    (subst (MayCoverDefinitions count ds) c.in-Some.is are) c.truncate.ensures
