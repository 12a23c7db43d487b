-- Searching for a whole root between two numbers.
use Rattle.std.proofs.Common.{◌≡◌, ◌+◌, ◌-◌, ◌*◌, ◌/◌, ◌%◌, ◌^◌, ◌<◌, ◌≤◌, ◌⊎◌, inl, inr, ℕ, suc, zero, arith, refl}
use Rattle.std.proofs.Common.{sym, ap, ◌∙◌, lit<}
use Rattle.std.proofs.lemmas.Bool.{cases_lt}
use Rattle.std.proofs.lemmas.Nat.{one_shl, pow-add}
use Rattle.std.proofs.Math.Nat.{mul_comm, mul-zero, one-le-pow, one-mul, pow-le-pow_left, pow-le-pow_right, pow-suc}
use Rattle.std.proofs.Math.Nat.{pow-zero}

-- the power of `low` is below `n`, and that of `high` is above it
pub record IsBetween (low high q n : ℕ) : Type 0 where
  pub order : low < high
  pub below : low ^ q < n
  pub above : n < high ^ q

-- a power of a power is the power to the product
root_pow-pow : (a m n : ℕ) → (a ^ m) ^ n ≡ a ^ (m * n)
root_pow-pow a m zero = pow-zero (a ^ m) ∙ sym (ap (λ k. a ^ k) (mul-zero m) ∙ pow-zero a)
root_pow-pow a m (suc n) =
    pow-suc (a ^ m) n ∙ ap (λ k. k * a ^ m) (root_pow-pow a m n) ∙ sym (pow-add a (m * n) m)
    ∙ ap (λ k. a ^ k) (one_more m n)
  where
    one_more : (m n : ℕ) → m * n + m ≡ m * suc n
    one_more m n = omega arith

-- powers of 1 are 1
root_one-pow : (n : ℕ) → 1 ^ n ≡ 1
root_one-pow zero = refl
root_one-pow (suc n) = pow-suc 1 n ∙ ap (λ k. k * 1) (root_one-pow n)

-- powers of 0 are 0
pub root_zero-pow : (n : ℕ) → 0 < n → 0 ^ n ≡ 0
root_zero-pow zero h = absurd (omega arith)
root_zero-pow (suc n) h = pow-suc 0 n ∙ omega arith

-- a number to the power 1 is the number
pub root_pow-one : (a : ℕ) → a ^ 1 ≡ a
root_pow-one a = pow-suc a 0 ∙ ap (λ k. k * a) (pow-zero a) ∙ one-mul a

-- for the degree 1, and for 0 and 1, the root is the number
pub root_small : (n q : ℕ) → 0 < q → (q ≡ 1) ⊎ (n < 2) → n ^ q ≡ n
root_small n q some (inl h) = ap (λ k. n ^ k) h ∙ root_pow-one n
root_small zero q some (inr h) = root_zero-pow q some
root_small (suc zero) q some (inr h) = root_one-pow q
root_small (suc (suc n)) q some (inr h) = absurd (omega arith)

-- the search begins between 1 and a power of two
pub root_search_start : (n q k : ℕ) → 0 < q → (q ≡ 1 → ⊥) → (n < 2 → ⊥) → n < 2 * 2 ^ k → k < 128
    → IsBetween 1 (1 * 2 ^ (k / q + 1) % 2 ^ 128) q n
root_search_start n q k some other big next bound =
    let two : 2 ≤ q = omega (arith, other) in
    let short : k / q + 1 < 128 = by_half (k / q) (quotient_low k q two bound) in
    let high_is : 1 * 2 ^ (k / q + 1) % 2 ^ 128 ≡ 2 ^ (k / q + 1) = one_shl (k / q + 1) 128 short in
    let whole : (2 ^ (k / q + 1)) ^ q ≡ 2 ^ ((k / q + 1) * q) = root_pow-pow 2 (k / q + 1) q in
    let times : 2 ^ (k + 1) ≤ 2 ^ ((k / q + 1) * q) = pow-le-pow_right {n = 2} (lit< tt) (reached k q some) in
    let step : 2 ^ (k + 1) ≡ 2 ^ k * 2 = ap (λ m. 2 ^ m) (one_more k) ∙ pow-suc 2 k in
    let doubled : 2 ^ (k / q + 1) ≡ 2 ^ (k / q) * 2 = ap (λ m. 2 ^ m) (one_more (k / q)) ∙ pow-suc 2 (k / q) in
    let above_one : 1 ≤ 2 ^ (k / q) = one-le-pow (k / q) 2 (lit< tt) in
    record {
      order = rw high_is (omega arith);
      below = rw (root_one-pow q) (omega (arith, big));
      above = rw (high_is, whole) (omega arith);
    }
  where
    one_more : (k : ℕ) → k + 1 ≡ suc k
    one_more k = omega arith

    quotient_low : (k q : ℕ) → 2 ≤ q → k < 128 → k / q * 2 < 128
    quotient_low k q two bound = grind arith

    by_half : (m : ℕ) → m * 2 < 128 → m + 1 < 128
    by_half m h = omega arith

    reached : (k q : ℕ) → 0 < q → k + 1 ≤ (k / q + 1) * q
    reached k q some = omega (arith, mul_comm (k / q) q)

-- if the two numbers are consecutive, there is no root
pub root_search_end_has_no_root : (low high q n : ℕ) → IsBetween low high q n → high - low ≤ 1 → (m : ℕ) → m ^ q ≡ n → ⊥
root_search_end_has_no_root low high q n is h m e = elim (cases_lt low m) [
  | inl above ↦ (let reached : high ^ q ≤ m ^ q =
      pow-le-pow_left (next low high m is.order h above) q in past (high ^ q) (m ^ q) n reached e is.above)
  | inr below ↦ (let reached : m ^ q ≤ low ^ q =
      pow-le-pow_left below q in short (low ^ q) (m ^ q) n reached e is.below)
]
  where
    next : (low high m : ℕ) → low < high → high - low ≤ 1 → low < m → high ≤ m
    next low high m p h q = omega arith

    past : (x y n : ℕ) → x ≤ y → y ≡ n → n < x → ⊥
    past x y n h e k = omega arith

    short : (x y n : ℕ) → y ≤ x → y ≡ n → x < n → ⊥
    short x y n h e k = omega arith
