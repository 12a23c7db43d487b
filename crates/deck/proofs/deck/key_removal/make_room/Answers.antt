use Rattle.deck.proofs.KindPlacing.{same_definition_places_trans}
use Rattle.deck.proofs.deck.key_removal.make_room.Goals as goal

pub returns-clause-same : goal.returns-clause-same
returns-clause-same c = λ kind.
    same_definition_places_trans _ _ _ (c.in_ok-make_room.ensures.same kind)
    (same_definition_places_trans _ _ _ (c.in_ok-make_room-2.ensures.same kind)
    (same_definition_places_trans _ _ _ (c.in_ok-make_room-3.ensures.same kind)
    (c.in_ok-make_room-4.ensures.same kind)))
