use Rattle.std.proofs.Common.{sym, ap, ◌∙◌}
use Rattle.deck.specs.KindPlaces.{definition_place_count}
use Rattle.deck.proofs.KindPlacing.{definition_place_count_longer, same_definition_places_longer}
use Rattle.deck.proofs.places.kind_places.KindPlaces.make_room.Goals as goal

pub loop-self-preserved : goal.loop-self-preserved
loop-self-preserved c = (
  same_definition_places_longer c.args.self.now c.loop-self.self-inside.places.items c.push.new.self.items
      c.loop-self.invariant.0
      c.in_ok-push.ensures.items,
  c.loop-self.invariant.1 ∙ sym (definition_place_count_longer c.loop-self.self-inside.places.items)
      ∙ ap definition_place_count (sym c.in_ok-push.ensures.items),
)
