use Rattle.std.proofs.Common.{◌≡◌, ◌≤◌, ◌+◌, ◌-◌, ◌++◌, length}
use Rattle.gap_list.specs.Gaps.{gaps_with_more}
use Rattle.gap_list.proofs.LayerMerges.{gaps_left}
use Rattle.gap_list.proofs.merges.merged_gaps.Given as goal

-- the gaps so far and those that are left are all gaps
abbrev pub invariant-loop-next : goal.invariant-loop-next
invariant-loop-next l = record {
  passed : l.passed ≤ length l.merged;
  next : l.next ≤ length l.recent;
  left : l.gaps.items ++ gaps_left l.merged l.recent l.passed l.next ≡ gaps_with_more l.merged l.recent;
}

abbrev pub decreases-loop-next : goal.decreases-loop-next
decreases-loop-next l = (length l.merged - l.passed) + (length l.recent - l.next)
