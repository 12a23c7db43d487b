use Rattle.std.proofs.Common.{ap, option_map, slice_get, sym, ◌∙◌}
use Rattle.std.proofs.lemmas.Option.{same_Some, slice_get-map}
use Rattle.gap_list.specs.Gaps.{place_without_gaps}
use Rattle.deck.proofs.KnownCover.{covered_definition_place_mapped, no_covered_definition_mapped}
use Rattle.deck.proofs.places.covered_lines.CoveredLines.get.Goals as goal

pub returns-in-Some : goal.returns-in-Some
returns-in-Some c = λ covered at.
    let s = c.self.inside in
    c.place_of.ensures
    ∙ covered_definition_place_mapped (place_without_gaps s.gaps) s.slots.listed c.args.place c.in-Some.slot.now covered
    (sym c.in-Some.ensures)
    (ap (λ l. slice_get l c.args.place) c.self.view_is ∙ at)

pub returns-in-None : goal.returns-in-None
returns-in-None c = λ covered at.
    let s = c.self.inside in
    absurd (no_covered_definition_mapped (place_without_gaps s.gaps) s.slots.listed c.args.place covered
    (sym c.in-None.ensures)
    (ap (λ l. slice_get l c.args.place) c.self.view_is ∙ at))
