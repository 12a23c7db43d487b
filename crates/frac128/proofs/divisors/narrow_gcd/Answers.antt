use Rattle.std.proofs.Common.{arith, rules, sym}
use mir.Syntax.{w64}
use Rattle.frac128.proofs.BinarySteps.{gcd_from_odd_parts, gcd_none, gcd_odd_part}
use Rattle.frac128.proofs.divisors.narrow_gcd.Goals as goal

pub returns-then-a-eq0 : goal.returns-then-a-eq0
returns-then-a-eq0 c = rw c.if-a-eq0.true (sym (gcd_none _))

pub narrow_odd_gcd-requires-clause-odd_a : goal.narrow_odd_gcd-requires-clause-odd_a
narrow_odd_gcd-requires-clause-odd_a c = (gcd_odd_part w64 _ (omega (arith, c.if-a-eq0.false)) (search rules)).odd

pub narrow_odd_gcd-requires-clause-odd_b : goal.narrow_odd_gcd-requires-clause-odd_b
narrow_odd_gcd-requires-clause-odd_b c = (gcd_odd_part w64 _ c.requires (search rules)).odd

pub returns : goal.returns
returns c = gcd_from_odd_parts w64 _ _ _ _ (omega (arith, c.if-a-eq0.false)) c.requires (search rules)
    (search rules) c.min.ensures c.narrow_odd_gcd.ensures
