use Rattle.std.proofs.Common.{ap, arith, length}
use Rattle.gap_list.proofs.Layers.{length-layers}
use Rattle.gap_list.proofs.gaps.Gaps.len.Goals as goal

pub returns : goal.returns
returns c =
    omega (
      arith,
      c.len.ensures,
      c.len-2.ensures,
      c.self.inside.merged.ok.0,
      c.self.inside.recent.ok.0,
      length-layers c.self.inside.merged.items c.self.inside.recent.items,
      ap length c.self.view_is,
    )
