use mir.Syntax.{w128}
use Rattle.frac128.proofs.BinarySteps.{gcd_odd_pair_step, gcd_of_equal_odd_pair}
use Rattle.frac128.proofs.divisors.wide_odd_gcd.Goals as goal

pub loop-x-preserved : goal.loop-x-preserved
loop-x-preserved c =
    gcd_odd_pair_step w128 _ _ _ _ _ _ c.loop-x.invariant c.if-x-y.false c.min-x.ensures c.abs_diff-difference.ensures
    c.abs_diff-difference.type_inv

pub returns-then-x-y : goal.returns-then-x-y
returns-then-x-y c = gcd_of_equal_odd_pair _ _ _ _ c.loop-x.invariant c.if-x-y.true
