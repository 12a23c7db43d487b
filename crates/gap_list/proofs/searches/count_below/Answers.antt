use Rattle.std.proofs.Common.{◌≡◌, ◌<◌, ◌+◌, ◌-◌, ◌/◌, ℕ, List, length, drop, subst, sym, arith, add-one}
use Rattle.gap_list.specs.Gaps.{AreGapsIncreasing, place_without_gaps}
use Rattle.gap_list.proofs.GapSearch.{place_past_gaps, place_up_to_gap}
use Rattle.gap_list.proofs.searches.count_below.Goals as goal

pub loop-low-preserved-then-gaps-middle : goal.loop-low-preserved-then-gaps-middle
loop-low-preserved-then-gaps-middle c =
    let gaps : List ℕ = c.args.gaps.now in
    let middle : ℕ = c.loop-low.low + (c.loop-low.high - c.loop-low.low) / 2 in
    let up : AreGapsIncreasing 0 gaps = c.requires in
    let within : middle < length gaps = omega (arith, c.loop-low-test.true, c.loop-low.invariant.within) in
    record {
      ordered = omega (arith, c.loop-low-test.true);
      within = c.loop-low.invariant.within;
      before = subst (λ n. place_without_gaps gaps c.args.slot + n ≡ place_without_gaps (drop n gaps) c.args.slot)
          (sym (add-one middle))
          (place_past_gaps 0 gaps middle 0 c.args.slot up within (omega (arith, c.if-gaps-middle.true)));
      after = c.loop-low.invariant.after;
    }

pub loop-low-preserved : goal.loop-low-preserved
loop-low-preserved c =
    let gaps : List ℕ = c.args.gaps.now in
    let middle : ℕ = c.loop-low.low + (c.loop-low.high - c.loop-low.low) / 2 in
    let up : AreGapsIncreasing 0 gaps = c.requires in
    let within : middle < length gaps = omega (arith, c.loop-low-test.true, c.loop-low.invariant.within) in
    record {
      ordered = omega (arith, c.loop-low-test.true);
      within = omega (arith, within);
      before = c.loop-low.invariant.before;
      after = place_up_to_gap 0 gaps middle 0 c.args.slot up within (omega (arith, c.if-gaps-middle.false));
    }
