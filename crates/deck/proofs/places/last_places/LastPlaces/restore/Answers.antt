use Rattle.std.proofs.Common.{ap, arith, cond, length, map, option_map, set, ◌∙◌}
use Rattle.std.proofs.lemmas.List.{length-map}
use Rattle.gap_list.specs.Gaps.{place_without_gaps}
use Rattle.def_entry.specs.SameKeys.{is_same_key_kind}
use Rattle.deck.specs.LastPlaces.{definition_places_of_kind, last_definition_places}
use Rattle.deck.proofs.PlaceSlots.{map-put}
use Rattle.deck.proofs.places.last_places.LastPlaces.restore.Goals as goal

pub restore-requires : goal.restore-requires
restore-requires c =
    let old = c.args.self.now in
    let mid = c.slot_of-slot.new.self in
    omega (
      arith,
      c.requires,
      ap length (c.slot_of-slot.ensures.places c.args.n.kind),
      length-map (definition_places_of_kind mid.slots c.args.n.kind) (option_map (place_without_gaps mid.gaps)),
      length-map (definition_places_of_kind old.slots c.args.n.kind) (option_map (place_without_gaps old.gaps)),
    )

pub returns : goal.returns
returns c = λ kind.
    let mid = c.slot_of-slot.new.self in
    let b = is_same_key_kind kind c.args.n.kind in
    ap (map (option_map (place_without_gaps mid.gaps))) (c.restore.ensures kind)
    ∙ map-put (place_without_gaps mid.gaps) b (definition_places_of_kind mid.slots kind) c.args.n.number
    c.slot_of-slot.result
    ∙ ap (λ p. cond b (set (last_definition_places mid kind) c.args.n.number p) (last_definition_places mid kind))
    c.slot_of-slot.ensures.slot
    ∙ ap (λ ps. cond b (set ps c.args.n.number c.args.place) ps) (c.slot_of-slot.ensures.places kind)
