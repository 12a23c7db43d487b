use Rattle.std.proofs.Common.{List, ℕ, Option, ap, arith, length, map, option_map, ◌∙◌}
use Rattle.std.proofs.lemmas.List.{length-map}
use Rattle.std.specs.List.{remove}
use Rattle.gap_list.specs.Gaps.{place_without_gaps, without_gap}
use Rattle.deck.proofs.PlaceSlots.{definition_places_map-gap, map-removed}
use Rattle.deck.proofs.places.covered_lines.CoveredLines.remove.Goals as goal

pub remove-requires : goal.remove-requires
remove-requires c =
    let s = c.self.inside in
    omega (
      arith,
      c.requires,
      ap length c.self.view_is,
      length-map s.slots.listed (option_map (place_without_gaps s.gaps)),
    )

pub returns : goal.returns
returns c =
    let s = c.self.inside in
    let left : List (Option ℕ) = c.remove.new.self.listed in
    ap (λ gaps. map (option_map (place_without_gaps gaps)) left) c.in_ok-add.ensures.ok
    ∙ definition_places_map-gap c.args.place s.gaps left
    ∙ ap (map (option_map (without_gap c.args.place)))
    (ap (map (option_map (place_without_gaps s.gaps))) c.remove.ensures
    ∙ map-removed (place_without_gaps s.gaps) s.slots.listed c.args.place
    ∙ ap (λ l. remove l c.args.place) c.self.view_is)
