use Rattle.std.proofs.Common.{ap, arith, length}
use Rattle.gap_list.proofs.SlotItems.{length-items_without_gaps}
use Rattle.gap_list.proofs.list.GapList.len.Goals as goal

pub overflow_sub-result : goal.overflow_sub-result
overflow_sub-result g c =
    omega (
      arith,
      c.len.ensures,
      c.len-2.ensures,
      length-items_without_gaps 0 c.self.inside.gaps c.self.inside.slots.items c.self.invariant,
      c.self.inside.slots.ok.0,
    )

pub returns : goal.returns
returns g c =
    omega (
      arith,
      c.len.ensures,
      c.len-2.ensures,
      length-items_without_gaps 0 c.self.inside.gaps c.self.inside.slots.items c.self.invariant,
      c.self.inside.slots.ok.0,
      ap (λ l. length l.listed) c.self.view_is,
    )
