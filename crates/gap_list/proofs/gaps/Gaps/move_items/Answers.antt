use Rattle.std.proofs.Common.{ap, arith, length}
use Rattle.gap_list.proofs.Layers.{length-layers}
use Rattle.gap_list.proofs.gaps.Gaps.move_items.Goals as goal

pub move_items-requires-clause-slots : goal.move_items-requires-clause-slots
move_items-requires-clause-slots g c =
    omega (
      arith,
      c.requires,
      ap length c.as_slice.ensures.value,
      ap length c.as_slice-2.ensures.value,
      length-layers c.self.inside.merged.items c.self.inside.recent.items,
      ap length c.self.view_is,
    )
