use Rattle.std.proofs.Common.{refl, sym, ◌∙◌}
use Rattle.frac128.specs.Divisors.{IsLowestTerms}
use Rattle.frac128.proofs.Euclid.{gcd_some}
use Rattle.frac128.proofs.Lowest.{lowest_terms_denominator_some, lowest_terms_gcd}
use Rattle.frac128.proofs.Signs.{ratio-signed_numerator}
use Rattle.frac128.proofs.fraction.Frac.reduce_by.Goals as goal

pub quotient-requires : goal.quotient-requires
quotient-requires c = rw c.requires.divisor (gcd_some _ _ c.requires.some)

pub quotient-requires-2 : goal.quotient-requires-2
quotient-requires-2 c = rw c.requires.divisor (gcd_some _ _ c.requires.some)

pub of_lowest_terms-requires-clause-some : goal.of_lowest_terms-requires-clause-some
of_lowest_terms-requires-clause-some c =
    let low : IsLowestTerms c.args.top c.args.bottom c.quotient.result c.quotient-2.result =
    rw (c.quotient.ensures, c.quotient-2.ensures, c.requires.divisor) (record { top_is = refl; bottom_is = refl }) in
    lowest_terms_denominator_some _ _ _ _ c.requires.some low

pub of_lowest_terms-requires-clause-lowest : goal.of_lowest_terms-requires-clause-lowest
of_lowest_terms-requires-clause-lowest c =
    let low : IsLowestTerms c.args.top c.args.bottom c.quotient.result c.quotient-2.result =
    rw (c.quotient.ensures, c.quotient-2.ensures, c.requires.divisor) (record { top_is = refl; bottom_is = refl }) in
    lowest_terms_gcd _ _ _ _ c.requires.some low

pub returns : goal.returns
returns c =
    let low : IsLowestTerms c.args.top c.args.bottom c.quotient.result c.quotient-2.result =
    rw (c.quotient.ensures, c.quotient-2.ensures, c.requires.divisor) (record { top_is = refl; bottom_is = refl }) in
    c.of_lowest_terms.ensures ∙ sym (ratio-signed_numerator _ _ _ _ _ c.requires.some low)
