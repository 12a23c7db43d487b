use Rattle.std.proofs.Common.{sym, ◌∙◌}
use Rattle.gap_list.specs.Gaps.{place_without_gaps}
use Rattle.deck.specs.LastPlaces.{definition_places_of_kind}
use Rattle.deck.proofs.KindPlacing.{definition_place_count_mapped}
use Rattle.deck.proofs.places.last_places.LastPlaces.count.Goals as goal

pub returns : goal.returns
returns c =
    let last = c.args.self.now in
    c.count.ensures ∙ sym
    (definition_place_count_mapped (place_without_gaps last.gaps)
    (definition_places_of_kind last.slots c.args.kind))
