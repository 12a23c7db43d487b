use Rattle.std.proofs.Common.{map, ap, ◌∙◌}
use Rattle.deck.specs.PlacedKeys.{deck_keys_at_places}
use Rattle.deck.proofs.PlacedKeys.{placed_deck_keys_are_there}
use Rattle.deck.proofs.deck.Deck.key_places.Goals as goal

pub returns : goal.returns
returns c =
    let deck = c.args.self.now in
    ap (deck_keys_at_places deck.lines) (c.in_ok-places.ensures ∙ ap (map (λ k. k.place)) c.as_slice.ensures.value)
    ∙ placed_deck_keys_are_there deck.lines _ c.in_ok-placed.ensures.in_place
    ∙ c.in_ok-placed.ensures.keys
