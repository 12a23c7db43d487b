use Rattle.std.proofs.Common.{Some, ap, sym, ◌∙◌}
use Rattle.gap_list.specs.Gaps.{place_without_gaps}
use Rattle.gap_list.proofs.SlotItems.{place_of_slot}
use Rattle.deck.proofs.places.last_places.LastPlaces.slot_of.Goals as goal

pub returns-in-Some-slot_of-clause-slot : goal.returns-in-Some-slot_of-clause-slot
returns-in-Some-slot_of-clause-slot c =
    ap (λ slot. Some (place_without_gaps c.args.self.now.gaps slot)) c.in-Some-slot_of.ensures.slot
    ∙ ap Some (place_of_slot c.args.self.now.gaps c.in-Some.place)
    ∙ sym c.in-Some.is
