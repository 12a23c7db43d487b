use Rattle.std.proofs.Common.{ap, map, option_map, ◌∙◌}
use Rattle.gap_list.specs.Gaps.{place_without_gaps}
use Rattle.deck.specs.LastPlaces.{definition_places_of_kind}
use Rattle.deck.proofs.PlaceSlots.{definition_places_map-no_gaps}
use Rattle.deck.proofs.places.last_places.LastPlaces.fill_gaps.Goals as goal

pub returns-clause-places : goal.returns-clause-places
returns-clause-places c = λ kind.
    let now = definition_places_of_kind c.fill_gaps.new.self kind in
    ap (λ gaps. map (option_map (place_without_gaps gaps)) now) c.clear.ensures ∙ definition_places_map-no_gaps now
    ∙ c.fill_gaps.ensures kind
