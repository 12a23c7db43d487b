use Rattle.std.proofs.Common.{◌≤◌, ap, ◌∙◌, arith, length, sym, slice_get}
use Rattle.std.proofs.lemmas.Option.{slice_get_past}
use Rattle.gap_list.proofs.SlotItems.{item_in_slot, length-items_without_gaps}
use Rattle.gap_list.proofs.list.GapList.get.Goals as goal

pub returns-in-Some : goal.returns-in-Some
returns-in-Some g c =
    let s = c.self.inside in
    c.item_in.ensures ∙ ap (slice_get s.slots.items) c.in-Some.ensures.slot
    ∙ sym (item_in_slot s.gaps s.slots.items c.args.place)
    ∙ ap (λ l. slice_get l.listed c.args.place) c.self.view_is

pub returns-in-None : goal.returns-in-None
returns-in-None g c =
    let past : length c.args.self.now.listed ≤ c.args.place =
    omega (
      arith,
      c.in-None.ensures.none,
      length-items_without_gaps 0 c.self.inside.gaps c.self.inside.slots.items c.self.invariant,
      c.self.inside.slots.ok.0,
      c.self.inside.slots.ok.1,
      c.self.inside.slots.small,
      ap (λ l. length l.listed) c.self.view_is,
    ) in
    sym (slice_get_past c.args.self.now.listed c.args.place past)
