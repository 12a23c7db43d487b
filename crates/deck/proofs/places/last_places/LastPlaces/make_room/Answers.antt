use Rattle.std.proofs.Common.{◌<◌, option_map, subst, sym}
use Rattle.std.specs.Prelude.{OnOk}
use Rattle.std.proofs.lemmas.List.{length-map}
use Rattle.gap_list.specs.Gaps.{place_without_gaps}
use Rattle.def_entry.specs.SameKeys.{is_same_key_kind}
use Rattle.deck.specs.LastPlaces.{definition_places_of_kind}
use Rattle.deck.proofs.PlaceSlots.{map-other, map-same}
use Rattle.deck.proofs.places.last_places.LastPlaces.make_room.Goals as goal

pub returns-clause-same : goal.returns-clause-same
returns-clause-same c = λ k.
    map-same (place_without_gaps c.args.self.now.gaps) (definition_places_of_kind c.args.self.now.slots k)
    (definition_places_of_kind c.make_room.new.self k) (c.make_room.ensures.same k)

pub returns-clause-others : goal.returns-clause-others
returns-clause-others c = λ k.
    map-other (place_without_gaps c.args.self.now.gaps) (is_same_key_kind k c.args.kind)
    (definition_places_of_kind c.make_room.new.self k)
    (definition_places_of_kind c.args.self.now.slots k) (c.make_room.ensures.others k)

pub returns-clause-ok : goal.returns-clause-ok
returns-clause-ok c =
    subst (λ n. OnOk c.make_room.result (c.args.number < n))
    (sym (length-map (definition_places_of_kind c.make_room.new.self c.args.kind)
    (option_map (place_without_gaps c.args.self.now.gaps))))
    c.make_room.ensures.ok
