use Rattle.std.proofs.Common.{ap, map, option_map, sym, take, ◌∙◌}
use Rattle.std.proofs.lemmas.List.{take-map}
use Rattle.gap_list.specs.Gaps.{place_without_gaps}
use Rattle.deck.proofs.places.covered_lines.CoveredLines.truncate.Goals as goal

pub returns : goal.returns
returns c =
    let s = c.self.inside in
    ap (map (option_map (place_without_gaps s.gaps))) c.truncate.ensures
    ∙ sym (take-map (option_map (place_without_gaps s.gaps)) c.args.len s.slots.listed)
    ∙ ap (take c.args.len) c.self.view_is
