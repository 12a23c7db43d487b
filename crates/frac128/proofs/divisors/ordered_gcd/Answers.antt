use Rattle.std.proofs.Common.{◌<◌, arith, sym, ap, ◌∙◌}
use Rattle.frac128.specs.Divisors.{gcd}
use Rattle.frac128.proofs.BinarySteps.{gcd_one, gcd_swap}
use Rattle.frac128.proofs.Euclid.{gcd_step, gcd_zero}
use Rattle.frac128.proofs.divisors.ordered_gcd.Goals as goal

pub returns-in-0 : goal.returns-in-0
returns-in-0 c = rw c.in-0.is (sym (gcd_zero c.args.a))

pub returns-in-1 : goal.returns-in-1
returns-in-1 c = rw c.in-1.is (sym (gcd_one c.args.a))

pub returns-in_default : goal.returns-in_default
returns-in_default c =
    let some : 0 < c.args.b = omega arith in
    c.from.ensures ∙ c.narrow_gcd.ensures ∙ ap (λ n. gcd n c.args.b) c.rest.ensures
    ∙ gcd_swap _ _ ∙ gcd_step c.args.a c.args.b some
