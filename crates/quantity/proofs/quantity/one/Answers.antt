use Rattle.std.proofs.Common.{◌≡◌, ◌∙◌, pos, refl}
use Rattle.frac128.specs.Divisors.{gcd, gcd_within}
use Rattle.frac128.specs.Fraction.{whole_fraction}
use Rattle.frac128.specs.Steps.{lowest_terms}
use Rattle.quantity.proofs.quantity.one.Goals as goal

one_is : lowest_terms (pos 1) 1 ≡ whole_fraction (pos 1)
unfolding lowest_terms gcd gcd_within
one_is = refl

pub unwrap-requires : goal.unwrap-requires
unfolding lowest_terms gcd gcd_within
unwrap-requires c = search

pub returns : goal.returns
unfolding lowest_terms gcd gcd_within
returns c =
    let same : c.unwrap.result ≡ lowest_terms (pos 1) 1 = cc in
    same ∙ one_is
