-- The laws of quotients in lowest terms.
use Rattle.std.proofs.Common.{◌≡◌, ◌*◌, ◌/◌, ◌<◌, ◌*ℤ◌, ℕ, ℤ, pos, false, unsigned_abs, refl, sym, ap, ◌∙◌}
use Rattle.std.specs.Prelude.{int_lt}
use Rattle.std.proofs.lemmas.Int.{unsigned_abs-mul}
use Rattle.frac128.specs.Divisors.{IsLowestTerms, gcd}
use Rattle.frac128.specs.Fraction.{AreEquivalentFractions, Fraction, IsReducedFraction}
use Rattle.frac128.specs.Sign.{signed_numerator, fraction_signs_differ}
use Rattle.frac128.specs.Steps.{ReducedFractionLaw, lowest_terms}
use Rattle.frac128.proofs.Coprime.{gcd_one_is_coprime}
use Rattle.frac128.proofs.Lowest.{cross-lowest_terms, lowest_terms-cross, lowest_terms_denominator_some}
use Rattle.frac128.proofs.Lowest.{lowest_terms_gcd}
use Rattle.frac128.proofs.Signs.{abs-signed_numerator, lowest_terms-signed_numerator, mul-signed_numerator}
use Rattle.frac128.proofs.Signs.{numerator_factor_keeps_sign, numerator_is_signed}

-- the reduced fraction, computed from the sign and the magnitude of the numerator and from the denominator
pub lowest_terms_from_sign : (n : ℤ) (d : ℕ)
    → lowest_terms n d ≡ record {
      num = signed_numerator (int_lt n (pos 0)) (unsigned_abs n / gcd (unsigned_abs n) d);
      den =
          d / gcd (unsigned_abs n) d;
    }
lowest_terms_from_sign n d = ap (λ z. lowest_terms z d) (numerator_is_signed n)
    ∙ lowest_terms-signed_numerator _ _ d _ _ (record { top_is = refl; bottom_is = refl })

-- the result of `lowest_terms` is reduced
lowest_terms_is_reduced : (n : ℤ) (d : ℕ) → 0 < d → IsReducedFraction (lowest_terms n d)
lowest_terms_is_reduced n d some =
    let low : IsLowestTerms (unsigned_abs n) d _ _ = record { top_is = refl; bottom_is = refl } in
    rw (lowest_terms_from_sign n d) (record {
      den_positive = lowest_terms_denominator_some _ _ _ _ some low;
      coprime = rw (abs-signed_numerator (int_lt n (pos 0)) (unsigned_abs n / gcd (unsigned_abs n) d))
          (lowest_terms_gcd _ _ _ _ some low);
    })

-- the result of `lowest_terms` has the value of the quotient
pub lowest_terms-value : (n : ℤ) (d : ℕ) → AreEquivalentFractions (lowest_terms n d) (record { num = n; den = d })
lowest_terms-value n d =
    let s = int_lt n (pos 0) in
    let a = unsigned_abs n in
    let g = gcd a d in
    rw (lowest_terms_from_sign n d) (
    mul-signed_numerator s false (a / g) d
    ∙ ap (signed_numerator (fraction_signs_differ s false))
    (cross-lowest_terms a d (a / g) (d / g) (record { top_is = refl; bottom_is = refl }))
    ∙ sym (mul-signed_numerator s false a (d / g)) ∙ ap (λ z. z *ℤ pos (d / g)) (sym (numerator_is_signed n))
    )

-- no other reduced fraction has this value
pub reduced_fraction_is_lowest_terms : (n : ℤ) (d : ℕ) (x : Fraction) → 0 < d → IsReducedFraction x
    → AreEquivalentFractions x (record { num = n; den = d })
    → x ≡ lowest_terms n d
reduced_fraction_is_lowest_terms n d x some is same =
    let cross : unsigned_abs x.num * d ≡ unsigned_abs n * x.den =
    sym (unsigned_abs-mul x.num (pos d)) ∙ ap unsigned_abs same ∙ unsigned_abs-mul n (pos x.den) in
    let low = lowest_terms-cross (unsigned_abs n) d (unsigned_abs x.num) x.den some is.den_positive
    (gcd_one_is_coprime _ _ is.coprime) cross in
    let sign : int_lt x.num (pos 0) ≡ int_lt n (pos 0) =
    sym (numerator_factor_keeps_sign x.num d some) ∙ ap (λ z. int_lt z (pos 0)) same
    ∙ numerator_factor_keeps_sign n x.den is.den_positive in
    let num : x.num ≡ signed_numerator (int_lt n (pos 0)) (unsigned_abs x.num) = numerator_is_signed x.num
    ∙ ap (λ s. signed_numerator s (unsigned_abs x.num)) sign in
    ap (λ z. record { num = z; den = x.den }) num
    ∙ sym (lowest_terms-signed_numerator (int_lt n (pos 0)) (unsigned_abs n) d _ _ low)
    ∙ ap (λ z. lowest_terms z d) (sym (numerator_is_signed n))

-- the law of reduced fractions
pub reduced_fraction_law : ReducedFractionLaw
reduced_fraction_law n d some = (
  lowest_terms_is_reduced n d some,
  lowest_terms-value n d,
  λ x is same. reduced_fraction_is_lowest_terms n d x some
      is same,
)
