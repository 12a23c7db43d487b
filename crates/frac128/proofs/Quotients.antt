-- Comparing two ratios by their quotients and remainders.
use Rattle.std.proofs.Common.{inl, inr, ◌⊎◌, ◌≡◌, ◌+◌, ◌*◌, ◌/◌, ◌%◌, ◌<◌, ◌≤◌, ℕ, suc, zero, arith, refl, sym, ap, ◌∙◌}
use Rattle.std.specs.Ordering.{nat_cmp}
use Rattle.std.proofs.lemmas.Bool.Decides.{nat_tests}
use Rattle.std.proofs.lemmas.Bool.{cases_order}
use Rattle.std.proofs.Math.Nat.{add-mul, div-add-mod, mul-pos}

-- two ratios of numbers with denominators above 0 compare as `x` and `y` do
pub record IsAlike (a b c d x y : ℕ) : Type 0 where
  pub some_b : 0 < b
  pub some_d : 0 < d
  pub alike : nat_cmp (a * d) (c * b) ≡ nat_cmp x y

-- multiplying by a number above 0 preserves "less"
pub fraction_order_mul_less : (m n d : ℕ) → m < n → 0 < d → m * d < n * d
fraction_order_mul_less m n d h some = grind arith

-- if the quotient of one ratio is less than that of another, so is the ratio
fraction_order_quotient_below : (a b c d : ℕ) → 0 < b → 0 < d → a / b < c / d → a * d < c * b
fraction_order_quotient_below a b c d some_b some_d h =
    below a b c d (a / b) (c / d) (a % b) (c % d) h (omega arith) (omega arith) (omega arith) some_b some_d
  where
    below : (a b c d p q r s : ℕ) → p < q → a ≡ b * p + r → r < b → c ≡ d * q + s → 0 < b → 0 < d → a * d < c * b
    below a b c d p q r s h e k f some_b some_d =
        let whole : a < b * q = rows b p q r a e k h in
        let first : a * d < b * q * d = fraction_order_mul_less a (b * q) d whole some_d in
        let second : b * q * d ≤ c * b = rw f (spread b q d s) in
        omega arith
      where
        rows : (b p q r a : ℕ) → a ≡ b * p + r → r < b → p < q → a < b * q
        rows b p q r a e k h = grind arith

        spread : (b q d s : ℕ) → b * q * d ≤ (d * q + s) * b
        spread b q d s = grind arith

-- two pairs of numbers that are both less compare alike
fraction_order_both_less : (m n x y : ℕ) → m < n → x < y → nat_cmp m n ≡ nat_cmp x y
fraction_order_both_less m n x y h k = grind (arith, nat_tests)

-- two pairs of numbers that are both greater compare alike
fraction_order_both_greater : (m n x y : ℕ) → n < m → y < x → nat_cmp m n ≡ nat_cmp x y
fraction_order_both_greater m n x y h k = grind (arith, nat_tests)

-- two pairs of numbers that are both equal compare alike
fraction_order_both_equal : (m n x y : ℕ) → m ≡ n → x ≡ y → nat_cmp m n ≡ nat_cmp x y
fraction_order_both_equal m n x y h k = grind (arith, nat_tests)

-- ratios with different quotients compare as the quotients do
pub fraction_order_quotients_decide : (a b c d : ℕ) → 0 < b → 0 < d → (a / b ≡ c / d → ⊥)
    → nat_cmp (a / b) (c / d) ≡ nat_cmp (a * d) (c * b)
fraction_order_quotients_decide a b c d some_b some_d other =
    elim (cases_order (a / b) (c / d)) [
      | inl h ↦ absurd (other h)
      | inr (inl h) ↦ fraction_order_both_less _ _ _ _ h (fraction_order_quotient_below a b c d some_b some_d h)
      | inr (inr h) ↦ fraction_order_both_greater _ _ _ _ h (fraction_order_quotient_below c d a b some_d some_b h)
    ]

-- ratios with equal quotients compare as the ratios of their remainders do
pub fraction_order_quotients_equal : (a b c d : ℕ) → 0 < b → 0 < d → a / b ≡ c / d
    → nat_cmp (a * d) (c * b) ≡ nat_cmp (a % b * d) (c % d * b)
fraction_order_quotients_equal a b c d some_b some_d h =
    let left : a * d ≡ b * (a / b) * d + a % b * d = ap (λ n. n * d) (sym (div-add-mod a b))
    ∙ add-mul (b * (a / b)) (a % b) d in
    let right : c * b ≡ b * (a / b) * d + c % d * b =
    ap (λ n. n * b) (sym (div-add-mod c d)) ∙ add-mul (d * (c / d)) (c % d) b
    ∙ ap (λ n. n + c % d * b) (ap (λ q. d * q * b) (sym h) ∙ turned d (a / b) b) in
    rw (left, right) (shifted (b * (a / b) * d) (a % b * d) (c % d * b))
  where
    shifted : (k x y : ℕ) → nat_cmp (k + x) (k + y) ≡ nat_cmp x y
    shifted k x y = grind (arith, nat_tests)

    turned : (d q b : ℕ) → d * q * b ≡ b * q * d
    turned d q b = omega arith

-- if one remainder is 0, the ratios compare as the remainders do
pub fraction_order_remainders_decide : (r s b d : ℕ) → 0 < b → 0 < d → (r ≡ 0) ⊎ (s ≡ 0)
    → nat_cmp r s ≡ nat_cmp (r * d) (s * b)
fraction_order_remainders_decide zero zero b d some_b some_d h = fraction_order_both_equal 0 0 (0 * d) (0 * b) refl
    (omega arith)
fraction_order_remainders_decide zero (suc s) b d some_b some_d h =
    fraction_order_both_less 0 (suc s) (0 * d) (suc s * b) (omega arith)
    (omega (arith, mul-pos {m = suc s} {n = b} (omega arith) some_b))
fraction_order_remainders_decide (suc r) zero b d some_b some_d h =
    fraction_order_both_greater (suc r) 0 (suc r * d) (0 * b) (omega arith)
    (omega (arith, mul-pos {m = suc r} {n = d} (omega arith) some_d))
fraction_order_remainders_decide (suc r) (suc s) b d some_b some_d (inl h) = absurd (omega arith)
fraction_order_remainders_decide (suc r) (suc s) b d some_b some_d (inr h) = absurd (omega arith)
