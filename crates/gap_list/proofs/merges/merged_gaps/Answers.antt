use Rattle.std.proofs.Common.{◌≡◌, ◌+◌, ◌++◌, ◌∷◌, [], ℕ, List, get_or, sym, ap, ◌∙◌}
use Rattle.std.proofs.Common.{arith, append_assoc}
use Rattle.gap_list.proofs.GapSearch.{gap_least}
use Rattle.gap_list.proofs.LayerMerges.{gaps_left, merge_first, merge_second_before, merge_second_end, merge_start}
use Rattle.gap_list.proofs.merges.merged_gaps.Goals as goal
use Rattle.gap_list.proofs.merges.merged_gaps.Goals.{else-passed-merged-via-then-passed-merged+else-merged-passed}
use Rattle.gap_list.proofs.merges.merged_gaps.Goals.{else-passed-merged-via-else-passed-merged}

-- a gap is appended to those so far, and taken from those that are left
pushed : (gaps more left rest all : List ℕ) (gap : ℕ) → more ≡ gaps ++ gap ∷ [] → left ≡ gap ∷ rest → gaps ++ left ≡ all
    → more ++ rest ≡ all
pushed gaps more left rest all gap e split h =
    ap (λ (l : List ℕ). l ++ rest) e ∙ append_assoc gaps (gap ∷ []) rest
    ∙ sym (ap (λ (l : List ℕ). gaps ++ l) split) ∙ h

pub loop-next-init : goal.loop-next-init
loop-next-init c =
    let merged : List ℕ = c.args.merged.now in
    let recent : List ℕ = c.args.recent.now in
    record {
      passed = omega arith;
      next = omega arith;
      left = ap (λ (l : List ℕ). l ++ gaps_left merged recent 0 0) c.in_ok-gaps.ensures.items
          ∙ merge_start merged recent c.requires.merged c.requires.recent;
    }

pub overflow_sub-merged : goal.overflow_sub-merged
overflow_sub-merged c =
    omega (arith, gap_least 0 c.args.merged.now c.loop-next.passed 0 c.requires.merged c.if-passed-merged.true)

pub loop-next-preserved-then-merged-passed : goal.loop-next-preserved-then-merged-passed
loop-next-preserved-then-merged-passed c =
    let merged : List ℕ = c.args.merged.now in
    let recent : List ℕ = c.args.recent.now in
    let passed : ℕ = c.loop-next.passed in
    let next : ℕ = c.loop-next.next in
    record {
      passed = omega (arith, c.if-passed-merged.true);
      next = c.loop-next.invariant.next;
      left = pushed c.loop-next.gaps.items c.push.new.self.items (gaps_left merged recent passed next)
          (gaps_left merged recent (passed + 1) next) _ (get_or merged passed 0) c.in_ok-push.ensures.items
          (merge_first merged recent c.requires.merged c.requires.recent passed next c.if-passed-merged.true
          c.loop-next-test.true (omega (arith, c.if-merged-passed.true))) c.loop-next.invariant.left;
    }

pub loop-next-preserved : goal.loop-next-preserved
loop-next-preserved c =
    let merged : List ℕ = c.args.merged.now in
    let recent : List ℕ = c.args.recent.now in
    let passed : ℕ = c.loop-next.passed in
    let next : ℕ = c.loop-next.next in
    let split : gaps_left merged recent passed next
    ≡ (get_or recent next 0 + passed) ∷ gaps_left merged recent passed (next + 1) =
    elim c.else-passed-merged.branch [
      | else-passed-merged-via-then-passed-merged+else-merged-passed w ↦
          merge_second_before merged recent c.requires.merged c.requires.recent passed next w.if-passed-merged.true
          c.loop-next-test.true (omega (arith, w.if-merged-passed.false))
      | else-passed-merged-via-else-passed-merged w ↦
          merge_second_end merged recent c.requires.merged c.requires.recent passed next c.loop-next-test.true
          w.if-passed-merged.false
    ] in
    record {
      passed = c.loop-next.invariant.passed;
      next = omega (arith, c.loop-next-test.true);
      left = pushed c.loop-next.gaps.items c.push-else-passed-merged.new.self.items
          (gaps_left merged recent passed next) (gaps_left merged recent passed (next + 1)) _
          (get_or recent next 0 + passed)
          (c.in_ok-push-2.ensures.items ∙ ap (λ (n : ℕ). c.loop-next.gaps.items ++ n ∷ []) c.in-Some.ensures.1) split
          c.loop-next.invariant.left;
    }
