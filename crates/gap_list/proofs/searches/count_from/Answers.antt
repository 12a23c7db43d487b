use Rattle.std.proofs.Common.{◌≤◌, ◌+◌, ℕ, List, get_or, subst, sym, arith, add-one}
use Rattle.gap_list.specs.Gaps.{AreGapsIncreasing}
use Rattle.gap_list.specs.Searches.{AreGapsBefore}
use Rattle.gap_list.proofs.GapSearch.{gap_least, gaps_after_more, gaps_before_more}
use Rattle.gap_list.proofs.searches.count_from.Goals as goal

pub overflow_sub-gaps : goal.overflow_sub-gaps
overflow_sub-gaps c =
    let gaps : List ℕ = c.args.gaps.now in
    let up : AreGapsIncreasing 0 gaps = c.requires.up in
    omega (arith, gap_least 0 gaps c.loop-count.count 0 up (omega (arith, c.loop-count-test.true)))

pub loop-count-preserved : goal.loop-count-preserved
loop-count-preserved c =
    let gaps : List ℕ = c.args.gaps.now in
    let count : ℕ = c.loop-count.count in
    let up : AreGapsIncreasing 0 gaps = c.requires.up in
    let far : 0 + count ≤ get_or gaps count 0 = gap_least 0 gaps count 0 up (omega (arith, c.loop-count-test.true)) in
    record {
      more = omega arith;
      within = omega (arith, c.loop-count-test.true);
      before = subst (λ n. AreGapsBefore c.args.place n gaps) (sym (add-one count))
          (gaps_before_more 0 gaps count 0 c.args.place up (omega (arith, c.loop-count-test.true))
          (omega (arith, far, c.if-gaps-count.true)));
    }

pub returns-else-gaps-count-clause-after : goal.returns-else-gaps-count-clause-after
returns-else-gaps-count-clause-after c =
    let gaps : List ℕ = c.args.gaps.now in
    let count : ℕ = c.loop-count.count in
    let up : AreGapsIncreasing 0 gaps = c.requires.up in
    let far : 0 + count ≤ get_or gaps count 0 = gap_least 0 gaps count 0 up (omega (arith, c.loop-count-test.true)) in
    gaps_after_more 0 gaps count 0 (c.args.place + count) up (omega (arith, c.loop-count-test.true))
    (omega (arith, far, c.if-gaps-count.false))
