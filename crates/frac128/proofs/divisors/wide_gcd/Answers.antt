use Rattle.std.proofs.Common.{arith, rules, sym}
use mir.Syntax.{w128}
use Rattle.frac128.proofs.BinarySteps.{gcd_from_odd_parts, gcd_none, gcd_odd_part}
use Rattle.frac128.proofs.divisors.wide_gcd.Goals as goal

pub returns-then-a-eq0 : goal.returns-then-a-eq0
returns-then-a-eq0 c = rw c.if-a-eq0.true (sym (gcd_none _))

pub wide_odd_gcd-requires-clause-odd_a : goal.wide_odd_gcd-requires-clause-odd_a
wide_odd_gcd-requires-clause-odd_a c = (gcd_odd_part w128 _ (omega (arith, c.if-a-eq0.false)) (search rules)).odd

pub wide_odd_gcd-requires-clause-odd_b : goal.wide_odd_gcd-requires-clause-odd_b
wide_odd_gcd-requires-clause-odd_b c = (gcd_odd_part w128 _ c.requires (search rules)).odd

pub returns : goal.returns
returns c = gcd_from_odd_parts w128 _ _ _ _ (omega (arith, c.if-a-eq0.false)) c.requires (search rules)
    (search rules) c.min.ensures c.wide_odd_gcd.ensures
