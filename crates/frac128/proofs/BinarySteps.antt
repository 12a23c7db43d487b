-- The greatest common divisor, computed from differences and factors of two.
use Rattle.std.proofs.Common.{inl, inr, ◌≡◌, ◌+◌, ◌-◌, ◌*◌, ◌/◌, ◌%◌, ◌^◌, ◌<◌, ◌≤◌, ℕ, suc, zero, min, mod-eq_of_lt}
use Rattle.std.proofs.Common.{arith, sym, ap, ◌∙◌, lit<}
use mir.Syntax.{Width}
use mir.Val.{bits}
use Rattle.std.specs.Int.{abs_diff, bit_at, trailing_zeros}
use Rattle.std.proofs.lemmas.Bool.{cases_lt}
use Rattle.std.proofs.lemmas.Nat.{pow-add, shr-shr}
use Rattle.std.proofs.lemmas.Nat.Bits.{bit_at-suc, bit_at-trailing_zeros, bit_at_lowest}
use Rattle.std.proofs.lemmas.Nat.Gcd.{IsGcd-swap, dvd_refl, dvd_trans, le_of_dvd, same_from_IsGcd}
use Rattle.std.proofs.Math.Nat.{div-one, dvd-mul_left, dvd-mul_right_of_dvd, dvd-sub, dvd-sub_iff_left, mul_assoc}
use Rattle.std.proofs.Math.Nat.{mul_comm, one-dvd, one-mul, pow-suc, pow-zero}
use Rattle.frac128.specs.Divisors.{gcd, gcd_within}
use Rattle.frac128.proofs.Coprime.{IsCoprime, coprime_euclid_lemma}
use Rattle.frac128.proofs.Euclid.{gcd-mul, gcd_is, gcd_step, gcd_zero}
use Rattle.frac128.proofs.Powers.{coprime-pow_right}

-- the greatest common divisor is symmetric
pub gcd_swap : (a b : ℕ) → gcd a b ≡ gcd b a
gcd_swap a b = same_from_IsGcd a b _ _ (gcd_is a b) (IsGcd-swap b a _ (gcd_is b a))

-- the greatest common divisor of 0 and `b` is `b`
pub gcd_none : (b : ℕ) → gcd 0 b ≡ b
gcd_none b = gcd_swap 0 b ∙ gcd_zero b

-- the greatest common divisor of `a` and 1 is 1
pub gcd_one : (a : ℕ) → gcd a 1 ≡ 1
gcd_one a = same_from_IsGcd a 1 _ _ (gcd_is a 1) (one-dvd a, one-dvd 1, λ d p q. q)

-- a factor of one number that is coprime to the other does not change the greatest common divisor
pub gcd-coprime : (z u g : ℕ) → IsCoprime z u → gcd z (u * g) ≡ gcd z g
gcd-coprime z u g h =
    let is = gcd_is z g in
    let all = gcd_is z (u * g) in
    same_from_IsGcd z g _ _ (
      all.0,
      coprime_euclid_lemma z u g _ h (dvd-mul_right_of_dvd _ all.0 g) all.1,
      λ d p q. all.2 d p (dvd_trans d q (dvd-mul_left g u)),
    )
    is

-- an odd number is coprime to 2
odd_is_coprime_to_two : (x : ℕ) → x % 2 ≡ 1 → IsCoprime x 2
unfolding gcd gcd_within
odd_is_coprime_to_two x odd = record { one = sym (gcd_step x 2 (lit< tt)) ∙ ap (gcd 2) odd }

-- factors of two do not change the greatest common divisor with an odd number
gcd-odd : (x t m : ℕ) → x % 2 ≡ 1 → gcd x (2 ^ t * m) ≡ gcd x m
gcd-odd x t m odd = gcd-coprime x (2 ^ t) m (coprime-pow_right x 2 t (odd_is_coprime_to_two x odd))

-- replacing the greater number by the difference does not change the greatest common divisor
gcd_less : (x y : ℕ) → x ≤ y → gcd x (y - x) ≡ gcd x y
gcd_less x y low =
    let rest = gcd_is x (y - x) in
    same_from_IsGcd x y _ _
    (rest.0, (dvd-sub_iff_left _ low rest.0).0 rest.1, λ d p q. rest.2 d p (dvd-sub d q p))
    (gcd_is x y)

-- `n` is `2 ^ t` times its odd part `m`
pub record IsOddPart (n t m : ℕ) : Type 0 where
  pub whole : 2 ^ t * m ≡ n
  pub odd : m % 2 ≡ 1

-- if the lowest `t` bits are 0, `2 ^ t` divides the number
gcd_power_of_two_divides : (t n : ℕ) → ((i : ℕ) → i < t → bit_at n i ≡ 0) → 2 ^ t * (n / 2 ^ t) ≡ n
gcd_power_of_two_divides zero n none = rw (pow-zero 2, div-one n) (one-mul n)
gcd_power_of_two_divides (suc t) n none =
    let even : n % 2 ≡ 0 = sym (bit_at_lowest n) ∙ none 0 (omega arith) in
    let half : 2 ^ t * (n / 2 / 2 ^ t) ≡ n / 2 =
    gcd_power_of_two_divides t (n / 2) (λ i h. sym (bit_at-suc n i) ∙ none (suc i) (omega arith)) in
    let one_more : 1 + t ≡ suc t = omega arith in
    let quotient : n / 2 / 2 ^ t ≡ n / 2 ^ suc t = shr-shr n 1 t ∙ ap (λ k. n / 2 ^ k) one_more in
    ap (λ k. k * (n / 2 ^ suc t)) (pow-suc 2 t ∙ mul_comm (2 ^ t) 2) ∙ mul_assoc 2 (2 ^ t) (n / 2 ^ suc t)
    ∙ ap (λ k. 2 * k) (ap (λ k. 2 ^ t * k) (sym quotient) ∙ half) ∙ doubled even
  where
    doubled : n % 2 ≡ 0 → 2 * (n / 2) ≡ n
    doubled even = omega arith

-- the odd part of a number above 0
pub gcd_odd_part : (w : Width) (n : ℕ) → 0 < n → n < 2 ^ bits w
    → IsOddPart n (trailing_zeros w n) (n / 2 ^ trailing_zeros w n)
gcd_odd_part w n some fits =
    let is = bit_at-trailing_zeros w n some fits in
    record { whole = gcd_power_of_two_divides (trailing_zeros w n) n is.2; odd = is.1 }

-- two odd numbers with the same greatest common divisor as two others
pub record IsOddPair (a b x y : ℕ) : Type 0 where
  pub odd_x : x % 2 ≡ 1
  pub odd_y : y % 2 ≡ 1
  pub same : gcd x y ≡ gcd a b

-- the lesser of two such numbers and the odd part of their difference are again such numbers
pub gcd_odd_pair_step : (w : Width) (a b x y m d : ℕ) → IsOddPair a b x y → (x ≡ y → ⊥) → m ≡ min x y → d ≡ abs_diff x y
    → d < 2 ^ bits w
    → IsOddPair a b m (d / 2 ^ trailing_zeros w d)
gcd_odd_pair_step w a b x y m d is other m_is d_is fits =
    let some : 0 < d = omega (arith, other) in
    let part = gcd_odd_part w d some fits in
    let odd : m % 2 ≡ 1 = elim (cases_lt x y) [
      | inl h ↦ (let less : m ≡ x = omega arith in rw less is.odd_x)
      | inr h ↦ (let less : m ≡ y = omega arith in rw less is.odd_y)
    ] in
    let steps : gcd m d ≡ gcd x y = elim (cases_lt x y) [
      | inl h ↦ (let less : m ≡ x = omega arith in let rest : d ≡ y - x =
          omega arith in rw (less, rest) (gcd_less x y (omega arith)))
      | inr h ↦ (let less : m ≡ y = omega arith in let rest : d ≡ x - y =
          omega arith in rw (less, rest) (gcd_less y x h ∙ gcd_swap y x))
    ] in
    record {
      odd_x = odd;
      odd_y = part.odd;
      same = sym (gcd-odd m (trailing_zeros w d) _ odd) ∙ ap (gcd m) part.whole ∙ steps ∙ is.same;
    }

-- if two such numbers are equal, they are the greatest common divisor
pub gcd_of_equal_odd_pair : (a b x y : ℕ) → IsOddPair a b x y → x ≡ y → x ≡ gcd a b
gcd_of_equal_odd_pair a b x y is e =
    same_from_IsGcd x x _ _ (dvd_refl x, dvd_refl x, λ d p q. p) (gcd_is x x) ∙ ap (gcd x) e ∙ is.same

-- the lesser of the two powers of two is a factor of the greatest common divisor
gcd_has_shared_twos : (i j x y : ℕ) → x % 2 ≡ 1 → i ≤ j → gcd (2 ^ i * x) (2 ^ j * y) ≡ gcd x y * 2 ^ i
gcd_has_shared_twos i j x y odd low =
    let parts : j ≡ i + (j - i) = omega arith in
    let power : 2 ^ j * y ≡ 2 ^ i * (2 ^ (j - i) * y) = ap (λ k. 2 ^ k * y) parts
    ∙ ap (λ k. k * y) (pow-add 2 i (j - i)) ∙ mul_assoc (2 ^ i) (2 ^ (j - i)) y in
    ap (gcd (2 ^ i * x)) power ∙ gcd-mul (2 ^ i) x (2 ^ (j - i) * y) ∙ ap (λ k. 2 ^ i * k) (gcd-odd x (j - i) y odd)
    ∙ mul_comm (2 ^ i) (gcd x y)

-- the greatest common divisor of two numbers above 0, computed from their odd parts
pub gcd_from_odd_parts : (w : Width) (a b k g : ℕ) → 0 < a → 0 < b → a < 2 ^ bits w → b < 2 ^ bits w
    → k ≡ min (trailing_zeros w a) (trailing_zeros w b)
    → g ≡ gcd (a / 2 ^ trailing_zeros w a) (b / 2 ^ trailing_zeros w b) → g * 2 ^ k % 2 ^ bits w ≡ gcd a b
gcd_from_odd_parts w a b k g some_a some_b a_fits b_fits k_is g_is =
    let i = trailing_zeros w a in
    let j = trailing_zeros w b in
    let a_part = gcd_odd_part w a some_a a_fits in
    let b_part = gcd_odd_part w b some_b b_fits in
    let whole : g * 2 ^ k ≡ gcd a b = elim (cases_lt i j) [
      | inl h ↦ (let less : k ≡ i =
          omega arith in rw (less, g_is)
          (sym (gcd_has_shared_twos i j _ _ a_part.odd (omega arith))
          ∙ ap (λ n. gcd n (2 ^ j * (b / 2 ^ j))) a_part.whole
          ∙ ap (gcd a) b_part.whole))
      | inr h ↦ (let less : k ≡ j =
          omega arith in rw (less, g_is)
          (ap (λ n. n * 2 ^ j) (gcd_swap _ _) ∙ sym (gcd_has_shared_twos j i _ _ b_part.odd h)
          ∙ ap (λ n. gcd n (2 ^ i * (a / 2 ^ i))) b_part.whole ∙ ap (gcd b) a_part.whole ∙ gcd_swap b a))
    ] in
    let low : gcd a b ≤ a = le_of_dvd some_a (gcd_is a b).0 in
    ap (λ n. n % 2 ^ bits w) whole ∙ mod-eq_of_lt (omega arith)
