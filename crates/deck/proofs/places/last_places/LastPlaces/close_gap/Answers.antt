use Rattle.std.proofs.Common.{ap, map, option_map, sym, ◌∙◌}
use Rattle.gap_list.specs.Gaps.{place_without_gaps, without_gap}
use Rattle.deck.specs.LastPlaces.{definition_places_of_kind}
use Rattle.deck.proofs.PlaceSlots.{definition_places_map-gap, definition_places_map-no_gaps}
use Rattle.deck.proofs.places.last_places.LastPlaces.close_gap.Goals as goal

pub returns-in-Ok : goal.returns-in-Ok
returns-in-Ok c = λ kind.
    let mid = c.fill_many_gaps.new.self in
    ap (λ gaps. map (option_map (place_without_gaps gaps)) (definition_places_of_kind mid.slots kind))
    c.in-Ok.ensures.ok
    ∙ definition_places_map-gap c.args.gap mid.gaps (definition_places_of_kind mid.slots kind)
    ∙ ap (map (option_map (without_gap c.args.gap))) (c.fill_many_gaps.ensures kind)

pub returns-in-Err : goal.returns-in-Err
returns-in-Err c = λ kind.
    let filled = c.fill_gaps.new.self in
    let now = definition_places_of_kind c.close_gap.new.self kind in
    ap (λ gaps. map (option_map (place_without_gaps gaps)) now) c.fill_gaps.ensures.none
    ∙ definition_places_map-no_gaps now
    ∙ c.close_gap.ensures kind
    ∙ ap (map (option_map (without_gap c.args.gap)))
    (sym (definition_places_map-no_gaps (definition_places_of_kind filled.slots kind))
    ∙ ap (λ gaps. map (option_map (place_without_gaps gaps)) (definition_places_of_kind filled.slots kind))
    (sym c.fill_gaps.ensures.none)
    ∙ c.fill_gaps.ensures.places kind
    ∙ ap (λ gaps. map (option_map (place_without_gaps gaps))
    (definition_places_of_kind c.fill_many_gaps.new.self.slots kind))
    c.in-Err.ensures.err
    ∙ c.fill_many_gaps.ensures kind)
