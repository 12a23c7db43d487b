use Rattle.std.proofs.Common.{◌<◌, ◌^◌, ℕ, arith, inl, inr}
use Rattle.frac128.specs.Divisors.{HasWideLowestTerms, IsLowestTerms}
use Rattle.frac128.proofs.Lowest.{lowest_terms_by_gcds}
use Rattle.frac128.proofs.product.lowest_product.Goals as goal

-- a product is too wide if one of its parts does not fit 128 bits
wide_top : (a b x y : ℕ) → IsLowestTerms a b x y → (x < 2 ^ 128 → ⊥) → HasWideLowestTerms a b
wide_top a b x y low none = inl (rw low.top_is (omega (arith, none)))

wide_bottom : (a b x y : ℕ) → IsLowestTerms a b x y → (y < 2 ^ 128 → ⊥) → HasWideLowestTerms a b
wide_bottom a b x y low none = inr (rw low.bottom_is (omega (arith, none)))

pub returns-clause-found : goal.returns-clause-found
returns-clause-found c =
    let low = lowest_terms_by_gcds c.args.a c.args.b c.args.c c.args.d _ _ c.gcd-left.ensures.is c.gcd-right.ensures.is
    c.requires.some_b c.requires.some_d c.requires.lowest_ab c.requires.lowest_cd in
    rw (c.in_ok-top.ensures.1, c.in_ok-bottom.ensures.1) low

pub returns-in_err-top-clause-wide : goal.returns-in_err-top-clause-wide
returns-in_err-top-clause-wide c =
    let low = lowest_terms_by_gcds c.args.a c.args.b c.args.c c.args.d _ _ c.gcd-left.ensures.is c.gcd-right.ensures.is
    c.requires.some_b c.requires.some_d c.requires.lowest_ab c.requires.lowest_cd in
    rw c.from_residual.ensures (wide_top _ _ _ _ low c.in_err-top.ensures)

pub returns-in_err-bottom-clause-wide : goal.returns-in_err-bottom-clause-wide
returns-in_err-bottom-clause-wide c =
    let low = lowest_terms_by_gcds c.args.a c.args.b c.args.c c.args.d _ _ c.gcd-left.ensures.is c.gcd-right.ensures.is
    c.requires.some_b c.requires.some_d c.requires.lowest_ab c.requires.lowest_cd in
    rw c.from_residual-in_err-bottom.ensures (wide_bottom _ _ _ _ low c.in_err-bottom.ensures)
