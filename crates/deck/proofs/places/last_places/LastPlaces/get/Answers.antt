use Rattle.std.proofs.Common.{ap, option_map, sym, ◌∙◌}
use Rattle.gap_list.specs.Gaps.{place_without_gaps}
use Rattle.deck.specs.LastPlaces.{definition_places_of_kind}
use Rattle.deck.proofs.KindPlacing.{definition_place_in_mapped}
use Rattle.deck.proofs.places.last_places.LastPlaces.get.Goals as goal

pub returns : goal.returns
returns c =
    let last = c.args.self.now in
    c.place_of.ensures ∙ ap (option_map (place_without_gaps last.gaps)) c.get.ensures
    ∙ sym (definition_place_in_mapped (place_without_gaps last.gaps)
    (definition_places_of_kind last.slots c.args.n.kind) c.args.n.number)
