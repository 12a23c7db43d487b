use Rattle.std.proofs.Common.{◌≡◌, ap, None, Some, option_map, ◌∙◌}
use Rattle.std.proofs.lemmas.Option.{same_Some}
use Rattle.std.specs.Option.{option_and_then}
use Rattle.def_entry.specs.declared.key.Key.{Key}
use Rattle.deck.specs.Tables.{definition_place_of}
use Rattle.deck.proofs.places.covered_pass.covered_place.Goals as goal

pub returns-in-Some : goal.returns-in-Some
returns-in-Some c = λ ds k e are active at.
    c.get.ensures ∙ are.place c.in-Some.n
    ∙ ap (option_and_then (definition_place_of ds))
    (same_Some _ (Some k) (c.in-Some.ensures.number ∙ ap (option_map (λ d. Some d.0)) at))

pub returns-in-None : goal.returns-in-None
returns-in-None c = λ ds k e are active at.
    absurd (never k (c.in-None.ensures.number ∙ ap (option_map (λ d. Some d.0)) at))
  where
    never : (k : Key) → None ≡ Some (Some k) → ⊥
    never k h = cc
