-- Numbers without a common divisor other than 1.
use Rattle.std.proofs.Common.{◌≡◌, ◌*◌, ◌/◌, ◌<◌, ℕ, sym, ap, subst, ◌∙◌}
use Rattle.std.specs.Int.{IsGcd}
use Rattle.std.proofs.lemmas.Nat.Gcd.{same_from_IsGcd, dvd_trans, IsGcd-swap}
use Rattle.std.proofs.Math.Nat.{mul_comm, dvd-mul_right_of_dvd, one-dvd, mul-div_cancel', mul-div_cancel_left, mul-one}
use Prim.Native.Nat.{◌∣◌}
use Rattle.frac128.specs.Divisors.{gcd}
use Rattle.frac128.proofs.Euclid.{gcd_is, gcd-mul}

-- the greatest common divisor of two numbers is 1
pub record IsCoprime (a b : ℕ) : Type 0 where
  pub one : gcd a b ≡ 1

-- numbers that have only 1 as a common divisor are coprime
pub gcd_one_is_coprime : (a b : ℕ) → IsGcd a b 1 → IsCoprime a b
gcd_one_is_coprime a b h = record { one = same_from_IsGcd a b _ _ (gcd_is a b) h }

-- coprime numbers have only 1 as a common divisor
pub coprime_has_gcd_one : (a b : ℕ) → IsCoprime a b → IsGcd a b 1
coprime_has_gcd_one a b h = subst (λ g. IsGcd a b g) h.one (gcd_is a b)

-- if `d` divides the products of `c` with two coprime numbers, it divides `c`
pub coprime_euclid_lemma : (a b c d : ℕ) → IsCoprime a b → d ∣ a * c → d ∣ b * c → d ∣ c
coprime_euclid_lemma a b c d h p q =
    let whole : gcd (c * a) (c * b) ≡ c = gcd-mul c a b ∙ ap (λ g. c * g) h.one ∙ mul-one c in
    let p' = subst (λ n. d ∣ n) (mul_comm a c) p in
    let q' = subst (λ n. d ∣ n) (mul_comm b c) q in
    subst (λ n. d ∣ n) whole ((gcd_is (c * a) (c * b)).2 d p' q')

-- a number that is coprime to two numbers is coprime to their product
pub coprime-mul : (a b c : ℕ) → IsCoprime a b → IsCoprime a c → IsCoprime a (b * c)
coprime-mul a b c h k = gcd_one_is_coprime a (b * c) (
  one-dvd a,
  one-dvd (b * c),
  λ d p q.
      (coprime_has_gcd_one a c k).2 d p (coprime_euclid_lemma a b c d h (dvd-mul_right_of_dvd d p c) q),
)

-- being coprime is symmetric
pub coprime-swap : (a b : ℕ) → IsCoprime a b → IsCoprime b a
coprime-swap a b h = gcd_one_is_coprime b a (IsGcd-swap a b 1 (coprime_has_gcd_one a b h))

-- divisors of coprime numbers are coprime
pub coprime-dvd : (a b x y : ℕ) → IsCoprime a b → x ∣ a → y ∣ b → IsCoprime x y
coprime-dvd a b x y h p q = gcd_one_is_coprime x y (
  one-dvd x,
  one-dvd y,
  λ d s t.
      (coprime_has_gcd_one a b h).2 d (dvd_trans d s p) (dvd_trans d t q),
)

-- two numbers divided by their greatest common divisor are coprime
pub coprime-quotients : (a b : ℕ) → 0 < gcd a b → IsCoprime (a / gcd a b) (b / gcd a b)
coprime-quotients a b some =
    let g = gcd a b in
    let first : g * (a / g) ≡ a = mul-div_cancel' g (gcd_is a b).0 in
    let second : g * (b / g) ≡ b = mul-div_cancel' g (gcd_is a b).1 in
    let whole : g * gcd (a / g) (b / g) ≡ g * 1 = sym (gcd-mul g (a / g) (b / g))
    ∙ rw (first, second) (sym (mul-one g)) in
    record {
      one = sym (mul-div_cancel_left (gcd (a / g) (b / g)) some) ∙ ap (λ n. n / g) whole
          ∙ mul-div_cancel_left 1 some;
    }
