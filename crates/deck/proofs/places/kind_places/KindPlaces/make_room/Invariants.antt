use Rattle.std.proofs.Common.{◌≡◌, ◌+◌, ◌-◌}
use Rattle.std.specs.Vec.{vec_len}
use Rattle.deck.specs.KindPlaces.{HasSameDefinitionPlaces, definition_place_count}
use Rattle.deck.proofs.places.kind_places.KindPlaces.make_room.Given as goal

abbrev pub invariant-loop-self : goal.invariant-loop-self
invariant-loop-self l =
    HasSameDefinitionPlaces l.fn.self l.self-inside.places.items
    × (l.self-inside.count ≡ definition_place_count l.self-inside.places.items)

abbrev pub decreases-loop-self : goal.decreases-loop-self
decreases-loop-self l = l.number + 1 - vec_len l.self-inside.places
