use Rattle.std.proofs.Common.{Some, ap, sym, ◌∙◌}
use Rattle.gap_list.specs.Gaps.{place_without_gaps}
use Rattle.gap_list.proofs.SlotItems.{place_of_slot}
use Rattle.deck.proofs.places.covered_lines.slot_of.Goals as goal

pub returns-in-Some-slot_of : goal.returns-in-Some-slot_of
returns-in-Some-slot_of c =
    ap (λ slot. Some (place_without_gaps c.args.gaps.now slot)) c.in-Some-slot_of.ensures.slot
    ∙ ap Some (place_of_slot c.args.gaps.now c.in-Some.place) ∙ sym c.in-Some.is
