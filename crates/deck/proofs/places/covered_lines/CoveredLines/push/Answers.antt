use Rattle.std.proofs.Common.{◌++◌, ◌∷◌, [], List, ℕ, Option, ap, map, option_map, ◌∙◌}
use Rattle.std.proofs.lemmas.List.{map-append}
use Rattle.gap_list.specs.Gaps.{place_without_gaps}
use Rattle.deck.proofs.places.covered_lines.CoveredLines.push.Goals as goal

pub returns : goal.returns
returns c =
    let s = c.self.inside in
    let listed : List (Option ℕ) = s.slots.listed in
    let slot : Option ℕ = c.in_ok-slot.slot in
    ap (map (option_map (place_without_gaps s.gaps))) c.in_ok-push.ensures.ok
    ∙ map-append (option_map (place_without_gaps s.gaps)) listed (slot ∷ [])
    ∙ ap (λ p. map (option_map (place_without_gaps s.gaps)) listed ++ p ∷ []) c.in_ok-slot.ensures
    ∙ ap (λ l. l ++ c.args.place ∷ []) c.self.view_is
