use Rattle.std.proofs.Common.{◌≡◌, ◌<◌, sym, ap, ◌∙◌, arith}
use Rattle.std.proofs.lemmas.Grind.{common_steps}
use Rattle.std.proofs.lemmas.Nat.Gcd.{IsGcd-swap}
use Rattle.frac128.specs.Sign.{signed_numerator, whole_signs_differ}
use Rattle.frac128.specs.Steps.{fraction_or_overflow}
use Rattle.frac128.proofs.Lowest.{lowest_terms_denominator_some, lowest_terms_gcd}
use Rattle.frac128.proofs.Signs.{fraction_quotient_from_signs, wide_fraction_quotient_overflows}
use Rattle.std.proofs.Math.Nat.{mul-pos}
use Rattle.frac128.proofs.fraction.Frac.div.Goals as goal

pub lowest_product-requires-clause-lowest_ab : goal.lowest_product-requires-clause-lowest_ab
lowest_product-requires-clause-lowest_ab c = rw c.bottom.ensures.is c.top.ensures.lowest

pub lowest_product-requires-clause-lowest_cd : goal.lowest_product-requires-clause-lowest_cd
lowest_product-requires-clause-lowest_cd c = rw c.bottom-2.ensures.is (IsGcd-swap _ _ _ c.top-2.ensures.lowest)

pub of_lowest_terms-requires-clause-some : goal.of_lowest_terms-requires-clause-some
of_lowest_terms-requires-clause-some c =
    let some : 0 < c.top-2.result = grind (arith, common_steps) in
    lowest_terms_denominator_some _ _ _ _ (mul-pos c.bottom.ensures.some some) c.in-Some.ensures.found

pub of_lowest_terms-requires-clause-lowest : goal.of_lowest_terms-requires-clause-lowest
of_lowest_terms-requires-clause-lowest c =
    let some : 0 < c.top-2.result = grind (arith, common_steps) in
    lowest_terms_gcd _ _ _ _ (mul-pos c.bottom.ensures.some some) c.in-Some.ensures.found

pub returns-in-Some : goal.returns-in-Some
returns-in-Some c =
    let low = rw (c.top.ensures.is, c.bottom.ensures.is, c.top-2.ensures.is, c.bottom-2.ensures.is) at
    c.in-Some.ensures.found in
    let signs : c.differ-negative.result ≡ whole_signs_differ c.args.self.now.num c.args.other.now.num =
    rw (← c.is_negative.ensures, ← c.is_negative-2.ensures) c.differ-negative.ensures in
    c.of_lowest_terms.ensures
    ∙ ap (λ s. fraction_or_overflow (record { num = signed_numerator s c.in-Some.top; den = c.in-Some.bottom })) signs
    ∙ sym (fraction_quotient_from_signs c.args.self.now c.args.other.now c.in-Some.top c.in-Some.bottom
    (rw (← c.bottom.ensures.is) c.bottom.ensures.some) (rw (← c.bottom-2.ensures.is) c.bottom-2.ensures.some)
    (grind (arith, common_steps)) low)

pub returns-in-None : goal.returns-in-None
returns-in-None c =
    let wide = rw (c.top.ensures.is, c.bottom.ensures.is, c.top-2.ensures.is, c.bottom-2.ensures.is) at
    c.in-None.ensures.wide in
    sym (wide_fraction_quotient_overflows c.args.self.now c.args.other.now
    (rw (← c.bottom.ensures.is) c.bottom.ensures.some)
    (rw (← c.bottom-2.ensures.is) c.bottom-2.ensures.some) (grind (arith, common_steps)) wide)
