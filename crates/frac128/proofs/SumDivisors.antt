-- The common divisors of a sum over a common multiple and this multiple.
use Rattle.std.proofs.Common.{inl, inr, ◌≡◌, ◌+◌, ◌-◌, ◌*◌, ◌/◌, ◌<◌, ◌+ℤ◌, ℕ, pos, neg_ℤ, unsigned_abs, Bool, true}
use Rattle.std.proofs.Common.{false, arith, sym, ap, subst, ◌∙◌}
use Rattle.std.specs.Int.{◌∣◌, IsGcd}
use Rattle.std.proofs.lemmas.Bool.{cases_lt}
use Rattle.std.proofs.lemmas.Int.{ints}
use Rattle.std.proofs.lemmas.Nat.Gcd.{dvd_refl, dvd_trans}
use Rattle.std.proofs.Math.IntN.{+ℤ_comm}
use Rattle.std.proofs.Math.Nat.{dvd-add, dvd-add_iff_left, dvd-sub, mul-div_cancel', mul_assoc, mul_comm, one-dvd}
use Rattle.std.proofs.Math.Nat.{dvd-mul_left}
use Rattle.frac128.specs.Divisors.{gcd}
use Rattle.frac128.specs.Sign.{signed_numerator}
use Rattle.frac128.proofs.BinarySteps.{gcd-coprime}
use Rattle.frac128.proofs.Coprime.{IsCoprime, coprime-dvd, coprime-mul, coprime-quotients, coprime-swap}
use Rattle.frac128.proofs.Coprime.{gcd_one_is_coprime, coprime_has_gcd_one}
use Rattle.frac128.proofs.Euclid.{gcd_is, gcd_some}

-- the magnitude of a difference of natural numbers
numerator_abs-difference : (x y : ℕ) → unsigned_abs (pos x +ℤ neg_ℤ (pos y)) ≡ (x - y) + (y - x)
numerator_abs-difference x y = omega (arith, ints)

-- a divisor of a difference and of its second number divides the first number
common_divisor-difference : (x y k : ℕ) → k ∣ (x - y) + (y - x) → k ∣ y → k ∣ x
common_divisor-difference x y k both h = elim (cases_lt x y) [
  | inl low ↦ (let less : (x - y) + (y - x) ≡ y - x = omega arith in let rest : y - (y - x) ≡ x =
      omega arith in subst (λ n. k ∣ n) rest (dvd-sub k h (subst (λ n. k ∣ n) less both)))
  | inr high ↦ (let less : (x - y) + (y - x) ≡ x - y = omega arith in let whole : x - y + y ≡ x =
      omega arith in subst (λ n. k ∣ n) whole (dvd-add k (subst (λ n. k ∣ n) less both) h))
]

-- a divisor of a signed sum and of its second number divides the first number
dvd-signed_numerator : (s t : Bool) (x y k : ℕ) → k ∣ unsigned_abs (signed_numerator s x +ℤ signed_numerator t y)
    → k ∣ y → k ∣ x
dvd-signed_numerator false false x y k both h = (dvd-add_iff_left k h).1 both
dvd-signed_numerator false true x y k both h = common_divisor-difference x y k
    (subst (λ n. k ∣ n) (numerator_abs-difference x y) both) h
dvd-signed_numerator true false x y k both h = common_divisor-difference x y k (subst (λ n. k ∣ n) (turned x y) both) h
  where
    turned : (x y : ℕ) → unsigned_abs (neg_ℤ (pos x) +ℤ pos y) ≡ (x - y) + (y - x)
    turned x y = omega (arith, ints)
dvd-signed_numerator true true x y k both h = (dvd-add_iff_left k h).1 (subst (λ n. k ∣ n) (joined x y) both)
  where
    joined : (x y : ℕ) → unsigned_abs (neg_ℤ (pos x) +ℤ neg_ℤ (pos y)) ≡ x + y
    joined x y = omega (arith, ints)

-- a sum of a number that is coprime to `n` and a multiple of `n` is coprime to `n`
coprime-sum : (s t : Bool) (x y n : ℕ) → IsCoprime n x → n ∣ y
    → IsCoprime (unsigned_abs (signed_numerator s x +ℤ signed_numerator t y)) n
coprime-sum s t x y n h divides = gcd_one_is_coprime _ n (
  one-dvd _,
  one-dvd n,
  λ d p q. (coprime_has_gcd_one n x h).2 d q (dvd-signed_numerator s t x y d p (dvd_trans d q divides)),
)

-- the numerator of a sum over the least common multiple shares only factors of the greatest common divisor of the
-- denominators
pub fraction_sum_shares_gcd : (s t : Bool) (a b c d : ℕ) → 0 < b → 0 < d → IsGcd a b 1 → IsGcd c d 1
    → gcd (unsigned_abs (signed_numerator s (a * (d / gcd b d)) +ℤ signed_numerator t (c * (b / gcd b d))))
    (b / gcd b d * d)
    ≡ gcd (unsigned_abs (signed_numerator s (a * (d / gcd b d)) +ℤ signed_numerator t (c * (b / gcd b d)))) (gcd b d)
fraction_sum_shares_gcd s t a b c d some_b some_d ab cd =
    let g = gcd b d in
    let p = b / g in
    let q = d / g in
    let z = unsigned_abs (signed_numerator s (a * q) +ℤ signed_numerator t (c * p)) in
    let b_is : g * p ≡ b = mul-div_cancel' g (gcd_is b d).0 in
    let d_is : g * q ≡ d = mul-div_cancel' g (gcd_is b d).1 in
    let p_b : p ∣ b = subst (λ n. p ∣ n) b_is (dvd-mul_left p g) in
    let q_d : q ∣ d = subst (λ n. q ∣ n) d_is (dvd-mul_left q g) in
    let p_q : IsCoprime p q = coprime-quotients b d (gcd_some b d some_d) in
    let p_a : IsCoprime p a = coprime-dvd b a p a (coprime-swap a b (gcd_one_is_coprime a b ab)) p_b (dvd_refl a) in
    let q_c : IsCoprime q c = coprime-dvd d c q c (coprime-swap c d (gcd_one_is_coprime c d cd)) q_d (dvd_refl c) in
    let z_p : IsCoprime z p = coprime-sum s t (a * q) (c * p) p (coprime-mul p a q p_a p_q) (dvd-mul_left p c) in
    let z_q : IsCoprime z q =
    rw (+ℤ_comm (signed_numerator s (a * q)) (signed_numerator t (c * p)))
    (coprime-sum t s (c * p) (a * q) q (coprime-mul q c p q_c (coprime-swap p q p_q)) (dvd-mul_left q a)) in
    let multiple : p * d ≡ p * q * g = ap (λ n. p * n) (sym d_is ∙ mul_comm g q) ∙ sym (mul_assoc p q g) in
    ap (gcd z) multiple ∙ gcd-coprime z (p * q) g (coprime-mul z p q z_p z_q)
