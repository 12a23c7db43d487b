-- Powers of ten, and the scale at which a ratio has n digits before the point.
use Rattle.std.proofs.Common.{◌≡◌, ◌<◌, ◌≤◌, ◌+◌, ◌-◌, ◌*◌, ◌/◌, ◌%◌, ◌^◌, ◌+ℤ◌, ◌-ℤ◌, ℕ, ℤ, pos, negsuc, neg_ℤ, suc}
use Rattle.std.proofs.Common.{zero, true, false, length, arith, refl, sym, ap, subst, ◌∙◌, lit<, inl, inr}
use Rattle.std.specs.Prelude.{◌⊎◌, nat_le}
use Rattle.std.specs.Int.Digits.{digits_of}
use Rattle.std.proofs.lemmas.Bool.{cases_lt}
use Rattle.std.proofs.lemmas.Bool.Decides.{nat_tests}
use Rattle.std.proofs.lemmas.Int.{ints}
use Rattle.std.proofs.lemmas.Int.Digits.{all_below_base_digits_of, length-digits_of-le, number_digits_of, number_lt}
use Rattle.std.proofs.lemmas.Nat.{le-div, mul-le, pow-add}
use Rattle.std.proofs.Math.Nat.{div-add-mod, one-le-pow, pow-le-pow_right, lt_of_mul-lt-mul_right, pow-succ'}
use Rattle.digits_print.specs.Nearest.{decimal_scale_denominator, decimal_scale_numerator}
use Rattle.digits_print.specs.RatioRounding.{digit_count, power_of_first_digit}
use Rattle.digits_print.proofs.Products.{cancelled_digits_le, scaled_digits_lt}

-- a power of ten is above 0
pub digit_power_some : (k : ℕ) → 0 < 10 ^ k
digit_power_some k = one-le-pow k 10 (lit< tt)

-- a power of ten above the first is ten times the one before it
pub digit_power_before : (n : ℕ) → 0 < n → 10 ^ n ≡ 10 * 10 ^ (n - 1)
digit_power_before zero h = absurd (omega arith)
digit_power_before (suc m) h = let less : suc m - 1 ≡ m = omega arith in
    pow-succ' 10 m ∙ ap (λ v. 10 * 10 ^ v) (sym less)

-- a higher power of ten is not smaller
pub digit_power_up : (i k : ℕ) → i ≤ k → 10 ^ i ≤ 10 ^ k
digit_power_up i k h = pow-le-pow_right {n = 10} (lit< tt) h

-- the numerator of a scale is above 0
pub decimal_scale_numerator_some : (s : ℤ) → 0 < decimal_scale_numerator s
decimal_scale_numerator_some (pos k) = digit_power_some k
decimal_scale_numerator_some (negsuc k) = lit< tt

-- the denominator of a scale is above 0
pub decimal_scale_denominator_some : (s : ℤ) → 0 < decimal_scale_denominator s
decimal_scale_denominator_some (pos k) = lit< tt
decimal_scale_denominator_some (negsuc k) = digit_power_some (suc k)

-- a scale that is k above another is 10 ^ k times as great
pub shifted_decimal_scale : (s t : ℤ) (k : ℕ) → t ≡ s +ℤ pos k → decimal_scale_numerator t * decimal_scale_denominator
    s ≡ 10 ^ k * (decimal_scale_numerator s * decimal_scale_denominator t)
shifted_decimal_scale (pos i) (pos j) k e = powers (10 ^ j) (10 ^ i) (10 ^ k)
    (ap (λ m. 10 ^ m) (sum i j k e) ∙ pow-add 10 i k)
  where
    sum : (i j k : ℕ) → pos j ≡ pos i +ℤ pos k → j ≡ i + k
    sum i j k e = omega (arith, ints)

    powers : (x y z : ℕ) → x ≡ y * z → x * 1 ≡ z * (y * 1)
    powers x y z e = omega arith
shifted_decimal_scale (pos i) (negsuc j) k e = absurd (decimal_scales_apart i j k e)
  where
    decimal_scales_apart : (i j k : ℕ) → negsuc j ≡ pos i +ℤ pos k → ⊥
    decimal_scales_apart i j k e = omega (arith, ints)
shifted_decimal_scale (negsuc i) (pos j) k e =
    powers (10 ^ j) (10 ^ suc i) (10 ^ k) (ap (λ m. 10 ^ m) (sum i j k e) ∙ pow-add 10 j (suc i))
  where
    sum : (i j k : ℕ) → pos j ≡ negsuc i +ℤ pos k → k ≡ j + suc i
    sum i j k e = omega (arith, ints)

    powers : (x y z : ℕ) → z ≡ x * y → x * y ≡ z * (1 * 1)
    powers x y z e = omega arith
shifted_decimal_scale (negsuc i) (negsuc j) k e =
    powers (10 ^ suc j) (10 ^ suc i) (10 ^ k) (ap (λ m. 10 ^ m) (sum i j k e) ∙ pow-add 10 k (suc j))
  where
    sum : (i j k : ℕ) → negsuc j ≡ negsuc i +ℤ pos k → suc i ≡ k + suc j
    sum i j k e = omega (arith, ints)

    powers : (x y z : ℕ) → y ≡ z * x → 1 * y ≡ z * (1 * x)
    powers x y z e = omega arith

-- of two scales, one is some number of places above the other
pub ordered_decimal_scales : (s t : ℤ) → ((k : ℕ) × (t ≡ s +ℤ pos k)) ⊎ ((k : ℕ) × (s ≡ t +ℤ pos (suc k)))
ordered_decimal_scales (pos i) (pos j) = elim (cases_lt j i) [
  | inl h ↦ inr (i - j - 1, above i j h)
  | inr h ↦ inl (j - i, level i j h)
]
  where
    above : (i j : ℕ) → j < i → pos i ≡ pos j +ℤ pos (suc (i - j - 1))
    above i j h = omega (arith, ints)

    level : (i j : ℕ) → i ≤ j → pos j ≡ pos i +ℤ pos (j - i)
    level i j h = omega (arith, ints)
ordered_decimal_scales (pos i) (negsuc j) = inr (i + j, above i j)
  where
    above : (i j : ℕ) → pos i ≡ negsuc j +ℤ pos (suc (i + j))
    above i j = omega (arith, ints)
ordered_decimal_scales (negsuc i) (pos j) = inl (suc (i + j), level i j)
  where
    level : (i j : ℕ) → pos j ≡ negsuc i +ℤ pos (suc (i + j))
    level i j = omega (arith, ints)
ordered_decimal_scales (negsuc i) (negsuc j) = elim (cases_lt i j) [
  | inl h ↦ inr (j - i - 1, above i j h)
  | inr h ↦ inl (i - j, level i j h)
]
  where
    above : (i j : ℕ) → i < j → negsuc i ≡ negsuc j +ℤ pos (suc (j - i - 1))
    above i j h = omega (arith, ints)

    level : (i j : ℕ) → j ≤ i → negsuc j ≡ negsuc i +ℤ pos (i - j)
    level i j h = omega (arith, ints)

-- at this scale a / b has n digits before the point
pub record IsScaled (n a b : ℕ) (s : ℤ) : Type 0 where
  pub low : 10 ^ (n - 1) * (b * decimal_scale_numerator s) ≤ a * decimal_scale_denominator s
  pub high : a * decimal_scale_denominator s < 10 ^ n * (b * decimal_scale_numerator s)

-- the ratio does not have n digits before the point at two different scales
decimal_scales_apart : (n a b : ℕ) (s t : ℤ) (k : ℕ) → 0 < b → t ≡ s +ℤ pos (suc k) → IsScaled n a b s
    → IsScaled n a b t → ⊥
decimal_scales_apart n a b s t k some e at_s at_t =
    products (10 ^ (n - 1)) (10 ^ n) (10 ^ suc k) a b (decimal_scale_numerator s) (decimal_scale_denominator s)
    (decimal_scale_numerator t) (decimal_scale_denominator t)
    at_t.low at_s.high (shifted_decimal_scale s t (suc k) e) powers (decimal_scale_denominator_some t)
    (decimal_scale_denominator_some s)
  where
    powers : 10 ^ n ≤ 10 ^ (n - 1) * 10 ^ suc k
    powers = let more : n ≤ n - 1 + suc k =
        omega arith in subst (λ m. 10 ^ n ≤ m) (pow-add 10 (n - 1) (suc k)) (digit_power_up n (n - 1 + suc k) more)

    turned : (p b u d : ℕ) → p * (b * u) * d ≡ p * b * (u * d)
    turned p b u d = omega arith

    turned' : (p b r u d : ℕ) → p * b * (r * (u * d)) ≡ p * r * (b * u * d)
    turned' p b r u d = omega arith

    products : (p q r a b us ds ut dt : ℕ) → p * (b * ut) ≤ a * dt → a * ds < q * (b * us) → ut * ds ≡ r * (us * dt)
        → q ≤ p * r → 0 < dt
        → 0 < ds → ⊥
    products p q r a b us ds ut dt low high step wide some_dt some_ds =
        let first : a * ds * dt < q * (b * us) * dt = scaled_digits_lt (a * ds) (q * (b * us)) dt high some_dt in
        let second : p * (b * ut) * ds ≤ a * dt * ds = mul-le (p * (b * ut)) ds (a * dt) ds low (omega arith) in
        let third : p * (b * ut) * ds ≡ p * r * (b * us * dt) = turned p b ut ds ∙ ap (λ m. p * b * m) step
        ∙ turned' p b r us dt in
        let fourth : q * (b * us * dt) ≤ p * r * (b * us * dt) =
        mul-le q (b * us * dt) (p * r) (b * us * dt) wide (omega arith) in
        let fifth : q * (b * us) * dt ≡ q * (b * us * dt) = omega arith in
        let sixth : a * ds * dt ≡ a * dt * ds = omega arith in
        omega arith

-- the scale at which the ratio has n digits before the point is unique
pub decimal_scale_unique : (n a b : ℕ) (s t : ℤ) → 0 < b → IsScaled n a b s → IsScaled n a b t → s ≡ t
decimal_scale_unique n a b s t some at_s at_t = elim (ordered_decimal_scales s t) [
  | inl above ↦ level above.0 above.1
  | inr below ↦ absurd (decimal_scales_apart n a b t s below.0 some below.1 at_t at_s)
]
  where
    level : (k : ℕ) → t ≡ s +ℤ pos k → s ≡ t
    level zero e = omega (arith, ints)
    level (suc k) e = absurd (decimal_scales_apart n a b s t k some e at_s at_t)

-- a number is below ten to the power of its number of digits
pub below_digit_count_power : (m : ℕ) → m < 10 ^ digit_count m
unfolding digit_count
below_digit_count_power m = subst (λ v. v < 10 ^ length (digits_of 10 m)) (number_digits_of 10 m (omega arith))
    (number_lt 10 (digits_of 10 m) (all_below_base_digits_of 10 m (omega arith)))

-- a number above 0 has digits, and is at least the least number with as many
pub digit_count_least : (m : ℕ) → 0 < m → (0 < digit_count m) × (10 ^ (digit_count m - 1) ≤ m)
unfolding digit_count
digit_count_least m some =
    let counted : 0 < digit_count m = not_none (digit_count m) some (below_digit_count_power m) in (
      counted,
      elim (cases_lt m (10 ^ (digit_count m - 1))) [
        | inl h ↦ absurd (fewer h counted)
        | inr h ↦ h
      ],
    )
  where
    not_none : (c : ℕ) → 0 < m → m < 10 ^ c → 0 < c
    not_none zero some h = absurd (let e : 10 ^ 0 ≡ 1 = refl in omega arith)
    not_none (suc c) some h = omega arith

    fewer : m < 10 ^ (digit_count m - 1) → 0 < digit_count m → ⊥
    fewer h counted = let short = length-digits_of-le 10 (digit_count m - 1) m (omega arith) h in omega arith

-- at the scale of its first digit, a / b has one digit before the point
first_digit_scale : (a b : ℕ) → 0 < a → 0 < b → IsScaled 1 a b (power_of_first_digit a b)
unfolding power_of_first_digit
first_digit_scale a b some_a some_b = elim (cases_lt a b) [
  | inl h ↦ rw (less h) (small h)
  | inr h ↦ rw (more h) (large h)
]
  where
    less : a < b → nat_le b a ≡ false
    less h = grind (arith, nat_tests)

    more : b ≤ a → nat_le b a ≡ true
    more h = grind (arith, nat_tests)

    low_of : (a b w r p : ℕ) → b * w + r ≡ a → p ≤ w → 10 ^ 0 * (b * p) ≤ a * 1
    low_of a b w r p e h = let times : b * p ≤ b * w = mul-le b p b w (omega arith) h in omega arith

    high_of : (a b w r p : ℕ) → b * w + r ≡ a → r < b → w < 10 * p → a * 1 < 10 ^ 1 * (b * p)
    high_of a b w r p e k h = let times : b * (w + 1) ≤ b * (10 * p) =
        mul-le b (w + 1) b (10 * p) (omega arith) (omega arith) in omega arith

    at_count : (c w r : ℕ) → a * w + r ≡ b - 1 → r < a → 0 < c → 10 ^ (c - 1) ≤ w → w < 10 ^ c
        → IsScaled 1 a b (neg_ℤ (pos c))
    at_count zero w r e k some low high = absurd (omega arith)
    at_count (suc c) w r e k some low high =
        let less : suc c - 1 ≡ c = omega arith in
        let least : a * 10 ^ c ≤ a * w = mul-le a (10 ^ c) a w (omega arith) (subst (λ v. 10 ^ v ≤ w) less low) in
        let most : a * (w + 1) ≤ a * 10 ^ suc c = mul-le a (w + 1) a (10 ^ suc c) (omega arith) (omega arith) in
        let low' : 10 ^ 0 * (b * 1) ≤ a * 10 ^ suc c = omega arith in
        let high' : a * 10 ^ suc c < 10 ^ 1 * (b * 1) = let ten : a * 10 ^ suc c ≡ a * (10 * 10 ^ c) =
        ap (λ v. a * v) (pow-succ' 10 c) in omega arith in
        let is : IsScaled 1 a b (negsuc c) = record { low = low'; high = high' } in
        is

    large : b ≤ a → IsScaled 1 a b (pos (digit_count (a / b) - 1))
    large h =
        let some : 0 < a / b = le-div 1 a b some_b (omega arith) in
        let counted = digit_count_least (a / b) some in
        let power : 10 ^ digit_count (a / b) ≡ 10 * 10 ^ (digit_count (a / b) - 1) =
        digit_power_before (digit_count (a / b)) counted.0 in
        let whole : b * (a / b) + a % b ≡ a = div-add-mod a b in
        let part : a % b < b = omega arith in
        let bound = below_digit_count_power (a / b) in
        record {
          low = low_of a b (a / b) (a % b) (10 ^ (digit_count (a / b) - 1)) whole counted.1;
          high = high_of a b (a / b) (a % b) (10 ^ (digit_count (a / b) - 1)) whole part
              (subst (λ m. a / b < m) power bound);
        }

    small : a < b → IsScaled 1 a b (neg_ℤ (pos (digit_count ((b - 1) / a))))
    small h =
        let some : 0 < (b - 1) / a = le-div 1 (b - 1) a some_a (omega arith) in
        let counted = digit_count_least ((b - 1) / a) some in
        let whole : a * ((b - 1) / a) + (b - 1) % a ≡ b - 1 = div-add-mod (b - 1) a in
        let part : (b - 1) % a < a = omega arith in
        at_count (digit_count ((b - 1) / a)) ((b - 1) / a) ((b - 1) % a) whole part counted.0 counted.1
        (below_digit_count_power ((b - 1) / a))

-- at n - 1 places below the first digit, there are n digits before the point
lowered_digit_scale : (n a b : ℕ) (x s : ℤ) → 0 < n → x ≡ s +ℤ pos (n - 1) → IsScaled 1 a b x → IsScaled n a b s
lowered_digit_scale n a b x s some e first =
    let step = shifted_decimal_scale s x (n - 1) e in
    record {
      low = low_of (10 ^ (n - 1)) a b (decimal_scale_numerator s) (decimal_scale_denominator s)
          (decimal_scale_numerator x) (decimal_scale_denominator x) first.low step (decimal_scale_denominator_some x);
      high = high_of (10 ^ (n - 1)) (10 ^ n) a b (decimal_scale_numerator s) (decimal_scale_denominator s)
          (decimal_scale_numerator x) (decimal_scale_denominator x) first.high step (digit_power_before n some)
          (decimal_scale_denominator_some x) (decimal_scale_denominator_some s);
    }
  where
    turned : (b u d : ℕ) → b * u * d ≡ b * (u * d)
    turned b u d = omega arith

    low_of : (p a b us ds ux dx : ℕ) → 10 ^ 0 * (b * ux) ≤ a * dx → ux * ds ≡ p * (us * dx) → 0 < dx
        → p * (b * us) ≤ a * ds
    low_of p a b us ds ux dx h step some =
        let times : b * ux * ds ≤ a * dx * ds = mul-le (b * ux) ds (a * dx) ds (omega arith) (omega arith) in
        let left : b * ux * ds ≡ p * (b * us) * dx = turned b ux ds ∙ ap (λ m. b * m) step ∙ omega arith in
        let right : a * dx * ds ≡ a * ds * dx = omega arith in
        cancelled_digits_le (p * (b * us)) (a * ds) dx some (omega arith)

    high_of : (p q a b us ds ux dx : ℕ) → a * dx < 10 ^ 1 * (b * ux) → ux * ds ≡ p * (us * dx) → q ≡ 10 * p → 0 < dx
        → 0 < ds
        → a * ds < q * (b * us)
    high_of p q a b us ds ux dx h step e some some_ds =
        let times : a * dx * ds < 10 * (b * ux) * ds = scaled_digits_lt (a * dx) (10 * (b * ux)) ds
        (omega arith) some_ds in
        let left : b * ux * ds ≡ p * (b * us) * dx = turned b ux ds ∙ ap (λ m. b * m) step ∙ omega arith in
        let right : a * dx * ds ≡ a * ds * dx = omega arith in
        let ten : 10 * (b * ux) * ds ≡ 10 * (b * ux * ds) = omega arith in
        let whole : q * (b * us) * dx ≡ 10 * (p * (b * us) * dx) = ap (λ m. m * (b * us) * dx) e ∙ omega arith in
        lt_of_mul-lt-mul_right dx {m = (a * ds)} {n = (q * (b * us))} (omega arith)

-- rounding uses the scale at which the ratio has n digits before the point
pub rounding_digit_scale : (n a b : ℕ) → 0 < n → 0 < a → 0 < b
    → IsScaled n a b (power_of_first_digit a b -ℤ pos (n - 1))
rounding_digit_scale n a b some some_a some_b =
    lowered_digit_scale n a b (power_of_first_digit a b) (power_of_first_digit a b -ℤ pos (n - 1)) some
    (back (power_of_first_digit a b) (n - 1))
    (first_digit_scale a b some_a some_b)
  where
    back : (x : ℤ) (k : ℕ) → x ≡ (x -ℤ pos k) +ℤ pos k
    back x k = omega (arith, ints)
