use Rattle.frac128.proofs.Coprime.{coprime_has_gcd_one, gcd_one_is_coprime}
use Rattle.frac128.proofs.Powers.{coprime-pow, denominator_pow_some}
use Rattle.frac128.proofs.fraction.Frac.raise_parts.Goals as goal

pub of_lowest_terms-requires-clause-some : goal.of_lowest_terms-requires-clause-some
of_lowest_terms-requires-clause-some c = rw c.in-Some-Some.ensures'.1 (denominator_pow_some _ _ c.requires.some)

pub of_lowest_terms-requires-clause-lowest : goal.of_lowest_terms-requires-clause-lowest
of_lowest_terms-requires-clause-lowest c =
    rw (c.in-Some-Some.ensures.1, c.in-Some-Some.ensures'.1)
    (coprime_has_gcd_one _ _ (coprime-pow _ _ _ (gcd_one_is_coprime _ _ c.requires.lowest)))
