use Rattle.std.proofs.Common.{ap, arith, length}
use Rattle.gap_list.proofs.SlotItems.{length-items_without_gaps}
use Rattle.gap_list.proofs.list.GapList.into_vec.Goals as goal

pub returns-clause-room : goal.returns-clause-room
returns-clause-room g c =
    let s = c.self.inside in
    omega (
      arith,
      ap (λ l. l.spare) c.self.view_is,
      c.fill_gaps.ensures.capacity,
      ap length c.fill_gaps.ensures.items,
      length-items_without_gaps 0 s.gaps s.slots.items c.self.invariant,
      s.slots.ok.0,
      s.slots.ok.1,
      c.fill_gaps.new.slots.ok.0,
    )
