use mir.Syntax.{w64}
use Rattle.frac128.proofs.BinarySteps.{gcd_odd_pair_step, gcd_of_equal_odd_pair}
use Rattle.frac128.proofs.divisors.narrow_odd_gcd.Goals as goal

pub loop-x-preserved : goal.loop-x-preserved
loop-x-preserved c =
    gcd_odd_pair_step w64 _ _ _ _ _ _ c.loop-x.invariant c.loop-x-test.true c.min-x.ensures
    c.abs_diff-difference.ensures
    c.abs_diff-difference.type_inv

pub returns : goal.returns
returns c = gcd_of_equal_odd_pair _ _ _ _ c.loop-x.invariant c.loop-x-test.false
