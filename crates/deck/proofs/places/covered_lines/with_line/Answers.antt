use Rattle.std.proofs.Common.{subst}
use Rattle.deck.specs.CoveredLines.{MayCoverDefinitions}
use Rattle.deck.proofs.KnownCover.{may_cover_definitions_more}
use Rattle.deck.proofs.places.covered_lines.with_line.Goals as goal

pub returns-in-Ok : goal.returns-in-Ok
returns-in-Ok c = λ count ds k e are is.
    may_cover_definitions_more count ds c.in-Some.lines c.push.new.self k e c.args.place
    (subst (MayCoverDefinitions count ds) c.in-Some.is are) is
    c.in-Ok.ensures
