use Rattle.std.proofs.Common.{subst, sym}
use Rattle.gap_list.specs.Gaps.{AreGapsIncreasing}
use Rattle.gap_list.proofs.Layers.{increasing_layers}
use Rattle.gap_list.proofs.gaps.Gaps.merge_many.Goals as goal

pub invariant_of-self : goal.invariant_of-self
invariant_of-self c = (
  subst (AreGapsIncreasing 0) (sym c.in_ok-merged.ensures)
      (increasing_layers 0 c.as_slice.result.now c.as_slice-2.result.now
      (subst (AreGapsIncreasing 0) (sym c.as_slice.ensures.value) c.self.invariant.0)
      (subst (AreGapsIncreasing 0) (sym c.as_slice-2.ensures.value) c.self.invariant.1)),
  subst (AreGapsIncreasing 0) (sym c.clear.ensures.items) tt,
)
