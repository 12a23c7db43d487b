-- Powers of numbers and fractions.
use Rattle.std.proofs.Common.{neg_ℤ, cond, ◌≡◌, ◌^◌, ◌%◌, ◌<◌, ℕ, ℤ, pos, negsuc, suc, zero, Bool, true, false}
use Rattle.std.proofs.Common.{unsigned_abs, arith, refl, sym, ap, ◌∙◌}
use Rattle.std.specs.Prelude.{int_lt, ◌&&◌, ◌==◌}
use Rattle.std.specs.Int.{IsGcd, int_pow}
use Rattle.std.specs.Int.Signed.{le_z}
use Rattle.std.proofs.lemmas.Int.{ints}
use Rattle.std.proofs.Math.Nat.{pow-suc, pow-zero, one-dvd, one-le-pow, mul-zero}
use Rattle.frac128.specs.Divisors.{IsLowestTerms}
use Rattle.frac128.specs.Fraction.{Fraction}
use Rattle.frac128.specs.Powers.{fraction_power, power_fraction}
use Rattle.frac128.specs.Sign.{signed_numerator}
use Rattle.frac128.specs.Steps.{fraction_or_overflow, ratio}
use Rattle.frac128.proofs.Coprime.{IsCoprime, gcd_one_is_coprime, coprime-mul, coprime-swap}
use Rattle.frac128.proofs.Lowest.{coprime_ratio_is_lowest_terms}
use Rattle.frac128.proofs.Signs.{numerator_is_signed, ratio-signed_numerator}

-- powers of a number above 0 are above 0
pub denominator_pow_some : (a n : ℕ) → 0 < a → 0 < a ^ n
denominator_pow_some a n h = one-le-pow n a h

-- a number that is coprime to another is coprime to its powers
pub coprime-pow_right : (a b n : ℕ) → IsCoprime a b → IsCoprime a (b ^ n)
coprime-pow_right a b zero h = rw (pow-zero b) (gcd_one_is_coprime a 1 (one-dvd a, one-dvd 1, λ d p q. q))
coprime-pow_right a b (suc n) h = rw (pow-suc b n) (coprime-mul a (b ^ n) b (coprime-pow_right a b n h) h)

-- powers of coprime numbers are coprime
pub coprime-pow : (a b n : ℕ) → IsCoprime a b → IsCoprime (a ^ n) (b ^ n)
coprime-pow a b n h = coprime-pow_right (a ^ n) b n (coprime-swap _ _ (coprime-pow_right b a n (coprime-swap _ _ h)))

-- 0 has no sign
signed_numerator-zero : (s : Bool) → signed_numerator s 0 ≡ pos 0
signed_numerator-zero false = refl
signed_numerator-zero true = refl

-- a power, computed from sign and magnitude
pub pow-signed_numerator : (s : Bool) (a n : ℕ) → int_pow (signed_numerator s a) n ≡ signed_numerator
    (s && (n % 2 == 1)) (a ^ n)
pow-signed_numerator false a n = refl
pow-signed_numerator true zero zero = refl
pow-signed_numerator true zero (suc n) = rw (pow-suc 0 n, mul-zero (0 ^ n))
    (sym (signed_numerator-zero (suc n % 2 == 1)))
pow-signed_numerator true (suc a) n = by_rest (n % 2) (suc a ^ n) (omega arith)
  where
    by_rest : (r m : ℕ) → r < 2 → cond (r == 0) (pos m) (neg_ℤ (pos m)) ≡ signed_numerator (r == 1) m
    by_rest zero m h = refl
    by_rest (suc zero) m h = refl
    by_rest (suc (suc r)) m h = absurd (omega arith)

-- a power of a fraction in lowest terms, with an exponent of at least 0
pub fraction_power_up : (x : Fraction) (n : ℕ) → 0 < x.den → IsGcd (unsigned_abs x.num) x.den 1
    → fraction_power x (pos n) ≡ fraction_or_overflow (power_fraction x n)
fraction_power_up x n some lowest =
    let s = int_lt x.num (pos 0) in
    let a = unsigned_abs x.num in
    let is : int_pow x.num n ≡ signed_numerator (s && (n % 2 == 1)) (a ^ n) =
    ap (λ z. int_pow z n) (numerator_is_signed x.num)
    ∙ pow-signed_numerator s a n in
    let some_n = denominator_pow_some x.den n some in
    let low = coprime_ratio_is_lowest_terms (a ^ n) (x.den ^ n) some_n
    (coprime-pow a x.den n (gcd_one_is_coprime _ _ lowest)) in
    rw is (ratio-signed_numerator _ (a ^ n) (x.den ^ n) _ _ some_n low)

-- a power with an exponent below 0 is a power of the inverted fraction
pub fraction_power_down : (x : Fraction) (n : ℕ) → 0 < unsigned_abs x.num → IsGcd (unsigned_abs x.num) x.den 1
    → fraction_power x (negsuc n)
    ≡ fraction_or_overflow (power_fraction
    (record { num = signed_numerator (int_lt x.num (pos 0)) x.den; den = unsigned_abs x.num }) (suc n))
fraction_power_down x n some lowest =
    let s = int_lt x.num (pos 0) in
    let a = unsigned_abs x.num in
    let m = suc n in
    let is : int_pow x.num m ≡ signed_numerator (s && (m % 2 == 1)) (a ^ m) =
    ap (λ z. int_pow z m) (numerator_is_signed x.num)
    ∙ pow-signed_numerator s a m in
    let some_m = denominator_pow_some a m some in
    let low = coprime_ratio_is_lowest_terms (x.den ^ m) (a ^ m) some_m
    (coprime-swap _ _ (coprime-pow a x.den m (gcd_one_is_coprime _ _ lowest))) in
    rw (is, pow-signed_numerator s x.den m) (ratio_over_signed (s && (m % 2 == 1)) (x.den ^ m) (a ^ m) some_m low)
  where
    ratio_over_signed : (s : Bool) (top bottom : ℕ) → 0 < bottom → IsLowestTerms top bottom top bottom
        → ratio (pos top) (signed_numerator s bottom) ≡ fraction_or_overflow
        (record { num = signed_numerator s top; den = bottom })
    ratio_over_signed false top bottom some low = ratio-signed_numerator false top bottom top bottom some low
    ratio_over_signed true top zero some low = absurd (omega arith)
    ratio_over_signed true top (suc bottom) some low = ratio-signed_numerator true top (suc bottom) top
        (suc bottom) some low

-- `s`, `a` and `b` are the sign, the magnitude of the numerator, and the denominator of `x`
pub record IsMade (x : Fraction) (s : Bool) (a b : ℕ) : Type 0 where
  pub s_is : s ≡ int_lt x.num (pos 0)
  pub a_is : a ≡ unsigned_abs x.num
  pub b_is : b ≡ x.den
  pub some : 0 < b
  pub lowest : IsGcd a x.den 1

-- a power with an exponent of at least 0, computed from these parts
pub fraction_power_at : (x : Fraction) (k : ℤ) (s : Bool) (a b m : ℕ) → IsMade x s a b → m ≡ unsigned_abs k
    → le_z (pos 0) k ≡ true
    → fraction_or_overflow (power_fraction (record { num = signed_numerator s a; den = b }) m) ≡ fraction_power x k
fraction_power_at x (pos n) s a b m is m_is h =
    rw (m_is, is.s_is, is.a_is, is.b_is, ← numerator_is_signed x.num)
    (sym (fraction_power_up x n (rw (← is.b_is) is.some) (rw (← is.a_is) is.lowest)))
fraction_power_at x (negsuc n) s a b m is m_is h = absurd (cc)

-- a power of a fraction other than 0 with an exponent below 0, computed from these parts
pub fraction_power_below : (x : Fraction) (k : ℤ) (s : Bool) (a b m : ℕ) → IsMade x s a b → m ≡ unsigned_abs k
    → le_z (pos 0) k ≡ false → 0 < a
    → fraction_or_overflow (power_fraction (record { num = signed_numerator s b; den = a }) m) ≡ fraction_power x k
fraction_power_below x (pos n) s a b m is m_is h some = absurd (not_below n h)
  where
    not_below : (n : ℕ) → le_z (pos 0) (pos n) ≡ false → ⊥
    not_below n h = grind (arith, ints)
fraction_power_below x (negsuc n) s a b m is m_is h some =
    rw (m_is, is.s_is, is.a_is, is.b_is)
    (sym (fraction_power_down x n (rw (← is.a_is) some) (rw (← is.a_is) is.lowest)))
