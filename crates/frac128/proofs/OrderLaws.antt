-- The laws of the order of fractions.
use Rattle.std.proofs.Common.{◌≡◌, ◌*◌, ◌<◌, ◌*ℤ◌, ◌<ℤ◌, ◌≤ℤ◌, ℕ, ℤ, pos, negsuc, suc, false, true, unsigned_abs}
use Rattle.std.proofs.Common.{int_lt, arith, refl, sym, ap, ◌∙◌}
use Rattle.std.specs.declared.cmp.Ordering.{Ordering}
use Rattle.std.specs.declared.cmp.Ordering.TheVariants.{Less, Equal, Greater}
use Rattle.std.specs.Ordering.{int_cmp, is_le}
use Rattle.std.proofs.lemmas.Bool.{false≢true}
use Rattle.std.specs.Cmp.{int_cmp_is}
use Rattle.std.proofs.lemmas.Cmp.{int_cmp_total, int_ranked}
use Rattle.std.proofs.lemmas.Int.{by_lt_z, ints}
use Rattle.std.proofs.Math.IntN.{negsuc-*ℤ-pos}
use Rattle.std.proofs.Math.Nat.{mul-pos}
use Rattle.frac128.specs.Fraction.{Fraction, IsReducedFraction}
use Rattle.frac128.specs.Order.{FractionComparisonLaw, FractionOrderLaw, fraction_order}
use Rattle.frac128.specs.Sign.{fraction_signs_differ, signed_numerator}
use Rattle.frac128.proofs.QuotientLaws.{reduced_fraction_is_lowest_terms}
use Rattle.frac128.proofs.Signs.{mul-signed_numerator, numerator_is_signed}
use Rattle.std.specs.Int.Signed.{≤ℤ_refl}
use Rattle.frac128.proofs.Quotients.{fraction_order_mul_less}

-- multiplying by a number above 0 preserves "less"
numerator_mul_less : (a b : ℤ) (d : ℕ) → 0 < d → a <ℤ b → (a *ℤ pos d) <ℤ (b *ℤ pos d)
numerator_mul_less (pos a) (pos b) d some h = let low : a * d < b * d =
    fraction_order_mul_less a b d (omega (arith, ints)) some in omega (arith, ints)
numerator_mul_less (pos a) (negsuc b) d some h = absurd (omega (arith, ints))
numerator_mul_less (negsuc a) (pos b) d some h = let minus : 0 < suc a * d =
    mul-pos {m = suc a} (omega arith) some in rw (negsuc-*ℤ-pos a d) (omega (arith, ints))
numerator_mul_less (negsuc a) (negsuc b) d some h =
    let low : suc b * d < suc a * d = fraction_order_mul_less (suc b) (suc a) d (omega (arith, ints)) some in
    rw (negsuc-*ℤ-pos a d, negsuc-*ℤ-pos b d) (omega (arith, ints))

-- multiplying by a number above 0 preserves "at most"
numerator_mul_at_most : (a b : ℤ) (d : ℕ) → 0 < d → a ≤ℤ b → (a *ℤ pos d) ≤ℤ (b *ℤ pos d)
numerator_mul_at_most a b d some h =
    by_lt_z a b (λ low. weaker (a *ℤ pos d) (b *ℤ pos d) (numerator_mul_less a b d some low)) (λ high. same a b h high)
  where
    weaker : (x y : ℤ) → x <ℤ y → x ≤ℤ y
    weaker x y h = omega (arith, ints)

    same : (a b : ℤ) → a ≤ℤ b → b ≤ℤ a → (a *ℤ pos d) ≤ℤ (b *ℤ pos d)
    same a b h k = let e : a ≡ b = omega (arith, ints) in rw e (≤ℤ_refl (b *ℤ pos d))

-- a common factor above 0 may be removed from "less"
numerator_less_of_mul : (a b : ℤ) (d : ℕ) → 0 < d → (a *ℤ pos d) <ℤ (b *ℤ pos d) → a <ℤ b
numerator_less_of_mul a b d some h =
    by_lt_z a b (λ k. k) (λ k. absurd (clash (a *ℤ pos d) (b *ℤ pos d) h (numerator_mul_at_most b a d some k)))
  where
    clash : (x y : ℤ) → x <ℤ y → y ≤ℤ x → ⊥
    clash x y h k = omega (arith, ints)

-- two factors may be exchanged
numerator_factors_exchange : (z : ℤ) (a b : ℕ) → z *ℤ pos a *ℤ pos b ≡ z *ℤ pos b *ℤ pos a
numerator_factors_exchange z a b = twice z a b
    ∙ ap (signed_numerator (fraction_signs_differ (fraction_signs_differ (int_lt z (pos 0)) false) false))
    (turned (unsigned_abs z) a b)
    ∙ sym (twice z b a)
  where
    twice : (z : ℤ) (a b : ℕ)
        → z *ℤ pos a *ℤ pos b ≡ signed_numerator
        (fraction_signs_differ (fraction_signs_differ (int_lt z (pos 0)) false) false)
        (unsigned_abs z * a * b)
    twice z a b =
        let s = int_lt z (pos 0) in
        ap (λ n. n *ℤ pos a *ℤ pos b) (numerator_is_signed z)
        ∙ ap (λ n. n *ℤ pos b) (mul-signed_numerator s false (unsigned_abs z) a)
        ∙ mul-signed_numerator (fraction_signs_differ s false) false (unsigned_abs z * a) b

    turned : (m a b : ℕ) → m * a * b ≡ m * b * a
    turned m a b = omega arith

-- "less" is transitive
fraction_less_trans : (x y z : Fraction) → 0 < x.den → 0 < y.den → 0 < z.den → fraction_order x y ≡ Less
    → fraction_order y z ≡ Less
    → fraction_order x z ≡ Less
fraction_less_trans x y z some_x some_y some_z h k =
    let first : (x.num *ℤ pos y.den) <ℤ (y.num *ℤ pos x.den) = int_ranked _ _ Less (sym h) in
    let second : (y.num *ℤ pos z.den) <ℤ (z.num *ℤ pos y.den) = int_ranked _ _ Less (sym k) in
    let left = numerator_mul_less _ _ z.den some_z first in
    let right = numerator_mul_less _ _ x.den some_x second in
    let both : (x.num *ℤ pos z.den *ℤ pos y.den) <ℤ (z.num *ℤ pos x.den *ℤ pos y.den) =
    rw (numerator_factors_exchange x.num z.den y.den, numerator_factors_exchange z.num x.den y.den)
    (chained _ _ _ _ left (numerator_factors_exchange y.num x.den z.den) right) in
    sym (int_cmp_is _ _ Less (numerator_less_of_mul _ _ y.den some_y both))
  where
    chained : (a b c d : ℤ) → a <ℤ b → b ≡ c → c <ℤ d → a <ℤ d
    chained a b c d h e k = let k' : b <ℤ d = rw e k in omega (arith, ints)

-- reduced fractions that compare as equal are equal
equal_fractions_are_same : (x y : Fraction) → IsReducedFraction x → IsReducedFraction y → fraction_order x y ≡ Equal
    → x ≡ y
equal_fractions_are_same x y is_x is_y h =
    let same : x.num *ℤ pos y.den ≡ y.num *ℤ pos x.den = int_ranked _ _ Equal (sym h) in
    reduced_fraction_is_lowest_terms y.num y.den x is_y.den_positive is_x same
    ∙ sym (reduced_fraction_is_lowest_terms y.num y.den y is_y.den_positive is_y refl)

-- the law of the order
pub fraction_order_law : FractionOrderLaw
fraction_order_law = (
  λ x y. int_cmp_total.antisymm (x.num *ℤ pos y.den) (y.num *ℤ pos x.den),
  fraction_less_trans,
  equal_fractions_are_same,
)

-- the law that `fraction_order` decides "less" and "at most"
pub fraction_comparison_law : FractionComparisonLaw
fraction_comparison_law x y =
    let a = x.num *ℤ pos y.den in
    let b = y.num *ℤ pos x.den in (
      (λ h. int_ranked a b Less (sym h), λ h. sym (int_cmp_is a b Less h)),
      (at_most a b (fraction_order x y) refl, is_at_most a b (fraction_order x y) refl),
    )
  where
    weaker : (a b : ℤ) → a <ℤ b → a ≤ℤ b
    weaker a b h = omega (arith, ints)

    clash : (a b : ℤ) → b <ℤ a → a ≤ℤ b → ⊥
    clash a b h k = omega (arith, ints)

    at_most : (a b : ℤ) (o : Ordering) → o ≡ int_cmp a b → is_le o ≡ true → a ≤ℤ b
    at_most a b Less e h = weaker a b (int_ranked a b Less e)
    at_most a b Equal e h = let same : a ≡ b = int_ranked a b Equal e in rw same (≤ℤ_refl b)
    at_most a b Greater e h = absurd (false≢true h)

    is_at_most : (a b : ℤ) (o : Ordering) → o ≡ int_cmp a b → a ≤ℤ b → is_le o ≡ true
    is_at_most a b Less e h = refl
    is_at_most a b Equal e h = refl
    is_at_most a b Greater e h = absurd (clash a b (int_ranked a b Greater e) h)
