use Rattle.std.proofs.Common.{◌<◌, ◌≤◌, ◌+◌, ◌-◌, ◌/◌, ℕ, List, length, get_or, subst, sym, arith, add-one}
use Rattle.gap_list.specs.Gaps.{AreGapsIncreasing}
use Rattle.gap_list.specs.Searches.{AreGapsBefore}
use Rattle.gap_list.proofs.GapSearch.{gap_least, gaps_after_more, gaps_before_more}
use Rattle.gap_list.proofs.searches.count_before.Goals as goal

pub overflow_sub-gaps : goal.overflow_sub-gaps
overflow_sub-gaps c =
    let gaps : List ℕ = c.args.gaps.now in
    let middle : ℕ = c.loop-low.low + (c.loop-low.high - c.loop-low.low) / 2 in
    let up : AreGapsIncreasing 0 gaps = c.requires in
    let within : middle < length gaps = omega (arith, c.loop-low-test.true, c.loop-low.invariant.within) in
    omega (arith, gap_least 0 gaps middle 0 up within)

pub loop-low-preserved-then-gaps-middle : goal.loop-low-preserved-then-gaps-middle
loop-low-preserved-then-gaps-middle c =
    let gaps : List ℕ = c.args.gaps.now in
    let middle : ℕ = c.loop-low.low + (c.loop-low.high - c.loop-low.low) / 2 in
    let up : AreGapsIncreasing 0 gaps = c.requires in
    let within : middle < length gaps = omega (arith, c.loop-low-test.true, c.loop-low.invariant.within) in
    let far : 0 + middle ≤ get_or gaps middle 0 = gap_least 0 gaps middle 0 up within in
    record {
      ordered = omega (arith, c.loop-low-test.true);
      within = c.loop-low.invariant.within;
      before = subst (λ n. AreGapsBefore c.args.place n gaps) (sym (add-one middle))
          (gaps_before_more 0 gaps middle 0 c.args.place up within (omega (arith, far, c.if-gaps-middle.true)));
      after = c.loop-low.invariant.after;
    }

pub loop-low-preserved : goal.loop-low-preserved
loop-low-preserved c =
    let gaps : List ℕ = c.args.gaps.now in
    let middle : ℕ = c.loop-low.low + (c.loop-low.high - c.loop-low.low) / 2 in
    let up : AreGapsIncreasing 0 gaps = c.requires in
    let within : middle < length gaps = omega (arith, c.loop-low-test.true, c.loop-low.invariant.within) in
    let far : 0 + middle ≤ get_or gaps middle 0 = gap_least 0 gaps middle 0 up within in
    record {
      ordered = omega (arith, c.loop-low-test.true);
      within = omega (arith, within);
      before = c.loop-low.invariant.before;
      after = gaps_after_more 0 gaps middle 0 (c.args.place + middle) up within
          (omega (arith, far, c.if-gaps-middle.false));
    }
