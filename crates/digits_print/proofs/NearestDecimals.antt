-- Rounding to n digits gives the nearest decimal, and it is the only one.
use Rattle.std.proofs.Common.{◌≡◌, ◌<◌, ◌≤◌, ◌+◌, ◌-◌, ◌*◌, ◌/◌, ◌%◌, ◌^◌, ◌+ℤ◌, ℕ, ℤ, pos, suc, zero, true, false}
use Rattle.std.proofs.Common.{arith, refl, sym, ap, subst, ◌∙◌, inl, inr}
use Rattle.std.specs.Prelude.{◌⊎◌, ◌==◌}
use Rattle.std.specs.Int.{abs_diff}
use Rattle.std.specs.Ordering.{nat_cmp}
use Rattle.std.specs.declared.cmp.Ordering.{Ordering}
use Rattle.std.specs.declared.cmp.Ordering.TheVariants.{Less, Equal, Greater}
use Rattle.std.proofs.lemmas.Bool.{cases_eq}
use Rattle.std.proofs.lemmas.Bool.Decides.{nat_tests}
use Rattle.std.proofs.lemmas.Int.{ints}
use Rattle.std.proofs.lemmas.Nat.{div_below, le-div, mul-le, pow-add}
use Rattle.std.proofs.Math.Nat.{mul-pos, mul-one, mul_right_comm, pow-succ'}
use Rattle.frac128.specs.Decimals.{NumeralDecimal}
use Rattle.frac128.specs.Nearest.{FractionNearestWholeLaw, IsFractionNearestWhole, fraction_nearest_whole}
use Rattle.frac128.specs.Nearest.{whole_by_fraction_part}
use Rattle.digits_print.specs.Nearest.{HasDigits, IsDecimalNoFarther, IsLessDecimal, IsNearestDecimal}
use Rattle.digits_print.specs.Nearest.{IsPreferredDecimal, decimal_scale_denominator, decimal_scale_numerator}
use Rattle.digits_print.specs.RatioRounding.{NearestDecimalLaw, digits_rounding, rounded_at_scale, rounding_carry}
use Rattle.digits_print.proofs.DecimalGrids.{IsOnGrid, decimal_no_farther_on_grid, decimal_on_finer_grid}
use Rattle.digits_print.proofs.DecimalGrids.{decimal_on_grid_below, decimal_on_own_grid, decimal_steps_closer}
use Rattle.digits_print.proofs.NearestWholes.{other_rounding_is_odd}
use Rattle.digits_print.proofs.Products.{cancelled_digits_le, rounding_abs_diff-mul, scaled_digits_lt}
use Rattle.digits_print.proofs.Scales.{IsScaled, decimal_scale_denominator_some, digit_power_before, digit_power_some}
use Rattle.digits_print.proofs.Scales.{ordered_decimal_scales, rounding_digit_scale, shifted_decimal_scale}
use Rattle.digits_print.proofs.Scales.{decimal_scale_numerator_some, digit_power_up}

-- d is the decimal with n digits that equals m steps at s, for m of at most ten to the power n
record IsCarried (n m : ℕ) (s : ℤ) (d : NumeralDecimal) : Type 0 where
  digits : HasDigits n d.coefficient
  on : IsOnGrid d s m
  is : ((m < 10 ^ n) × (d.coefficient ≡ m) × (d.scale ≡ s))
      ⊎ ((m ≡ 10 ^ n) × (d.coefficient ≡ 10 ^ (n - 1)) × (d.scale ≡ s +ℤ pos 1))

-- a number of n digits, or the next power of ten, is carried to n digits
rounding_carry_is : (n m : ℕ) (s : ℤ) → 0 < n → 10 ^ (n - 1) ≤ m → m ≤ 10 ^ n → IsCarried n m s (rounding_carry n m s)
rounding_carry_is n m s some low high = elim (cases_eq m (10 ^ n)) [
  | inl h ↦ rw (same h) (next h)
  | inr h ↦ rw (other h) (own (omega arith))
] where
  same : m ≡ 10 ^ n → (m == 10 ^ n) ≡ true
  same h = grind (arith, nat_tests)

  other : (m ≡ 10 ^ n → ⊥) → (m == 10 ^ n) ≡ false
  other h = grind (arith, nat_tests)

  own : m < 10 ^ n → IsCarried n m s (record { coefficient = m; scale = s })
  own h = record {
    digits = record { lower_bound = low; upper_bound = h };
    on = decimal_on_own_grid (record { coefficient = m; scale = s });
    is = inl (h, refl, refl);
  }

  next : m ≡ 10 ^ n → IsCarried n m s (record { coefficient = 10 ^ (n - 1); scale = s +ℤ pos 1 })
  next h =
      let d : NumeralDecimal = record { coefficient = 10 ^ (n - 1); scale = s +ℤ pos 1 } in
      let ten : 10 ^ n ≡ 10 * 10 ^ (n - 1) = digit_power_before n some in
      let step : 10 ^ (n - 1) * 10 ^ 1 ≡ m = let one : 10 ^ 1 ≡ 10 = refl in rw one (omega arith) in
      record {
        digits = record { lower_bound = omega arith; upper_bound = omega (arith, digit_power_some (n - 1)) };
        on = subst (λ v. IsOnGrid d s v) step (decimal_on_grid_below d s 1 refl);
        is = inr (h, refl, refl);
      }

-- decimals with equal parts are equal
decimals_with_equal_parts : (d e : NumeralDecimal) → d.coefficient ≡ e.coefficient → d.scale ≡ e.scale → d ≡ e
decimals_with_equal_parts d e digits scale =
    ap (λ v. let x : NumeralDecimal = record { coefficient = v; scale = d.scale } in x) digits ∙ ap
    (λ v. let x : NumeralDecimal = record { coefficient = e.coefficient; scale = v } in x) scale

-- a decimal with n digits and the same number of steps is the same decimal
same_decimal : (n m : ℕ) (s : ℤ) (d e : NumeralDecimal) (k : ℕ) → 0 < n → IsCarried n m s d → HasDigits n e.coefficient
    → e.scale ≡ s +ℤ pos k
    → e.coefficient * 10 ^ k ≡ m → d ≡ e
same_decimal n m s d e k some own digits is same = by_case own.is where
  ten : 10 ^ n ≡ 10 * 10 ^ (n - 1)
  ten = digit_power_before n some

  level : (x y z : ℤ) → x ≡ y → z ≡ y +ℤ pos 0 → x ≡ z
  level x y z e f = omega (arith, ints)

  wide : (k x l p : ℕ) → l ≤ x → p ≡ 10 * 10 ^ k → 10 * l ≤ x * p
  wide k x l p h e = let more : l * (10 * 1) ≤ x * (10 * 10 ^ k) =
      mul-le l (10 * 1) x (10 * 10 ^ k) h (omega (arith, digit_power_some k)) in let is : x * p ≡ x * (10 * 10 ^ k) =
      ap (λ v. x * v) e in omega arith

  wider : (k x l p : ℕ) → l ≤ x → p ≡ 10 * (10 * 10 ^ k) → 100 * l ≤ x * p
  wider k x l p h e = let more : l * (10 * (10 * 1)) ≤ x * (10 * (10 * 10 ^ k)) =
      mul-le l (10 * (10 * 1)) x (10 * (10 * 10 ^ k)) h (omega (arith, digit_power_some k)) in let is : x * p
      ≡ x * (10 * (10 * 10 ^ k)) = ap (λ v. x * v) e in omega arith

  by_case : ((m < 10 ^ n) × (d.coefficient ≡ m) × (d.scale ≡ s))
      ⊎ ((m ≡ 10 ^ n) × (d.coefficient ≡ 10 ^ (n - 1)) × (d.scale ≡ s +ℤ pos 1))
      → d ≡ e
  by_case (inl own_scale) = at_steps k is same where
    at_steps : (k : ℕ) → e.scale ≡ s +ℤ pos k → e.coefficient * 10 ^ k ≡ m → d ≡ e
    at_steps zero is same = decimals_with_equal_parts d e (own_scale.1 ∙ sym same ∙ mul-one e.coefficient)
        (level d.scale s e.scale own_scale.2 is)
    at_steps (suc k) is same =
        absurd (let big = wide k e.coefficient (10 ^ (n - 1)) (10 ^ suc k) digits.lower_bound (pow-succ' 10 k) in
        let low =
        own_scale.0 in omega (arith, ten))
  by_case (inr next_scale) = at_steps k is same where
    at_steps : (k : ℕ) → e.scale ≡ s +ℤ pos k → e.coefficient * 10 ^ k ≡ m → d ≡ e
    at_steps zero is same = absurd (let whole : e.coefficient ≡ m = sym (mul-one e.coefficient) ∙ same in let high =
        next_scale.0 in omega (arith, digits.upper_bound))
    at_steps (suc zero) is same =
        let tenth : e.coefficient * 10 ≡ m = same in
        let high = next_scale.0 in
        let digits_is : 10 ^ (n - 1) ≡ e.coefficient = omega (arith, ten) in
        decimals_with_equal_parts d e (next_scale.1 ∙ digits_is) (next_scale.2 ∙ sym is)
    at_steps (suc (suc k)) is same = absurd (let big =
        wider k e.coefficient (10 ^ (n - 1)) (10 ^ suc (suc k)) digits.lower_bound
        (pow-succ' 10 (suc k) ∙ ap (λ v. 10 * v) (pow-succ' 10 k)) in let high =
        next_scale.0 in omega (arith, ten, digit_power_some (n - 1)))

-- of two equally near decimals, the one with an even number of steps is preferred
preferred_decimal : (n m : ℕ) (s : ℤ) (d e : NumeralDecimal) → 0 < n → IsCarried n m s d → HasDigits n e.coefficient
    → e.scale ≡ s +ℤ pos 0 → m % 2 ≡ 0
    → e.coefficient % 2 ≡ 1 → IsPreferredDecimal d e
preferred_decimal n m s d e some own digits is even odd = by_case own.is where
  by_case : ((m < 10 ^ n) × (d.coefficient ≡ m) × (d.scale ≡ s))
      ⊎ ((m ≡ 10 ^ n) × (d.coefficient ≡ 10 ^ (n - 1)) × (d.scale ≡ s +ℤ pos 1))
      → IsPreferredDecimal d e
  by_case (inl own_scale) = inl (ap (λ v. v % 2) own_scale.1 ∙ even, odd)
  by_case (inr next_scale) = at_count (n - 1) refl where
    even_power : (j x : ℕ) → x ≡ 10 ^ suc j → x % 2 ≡ 0
    even_power j x e = let ten = pow-succ' 10 j in omega arith

    one_above : (x y z : ℤ) → x ≡ y +ℤ pos 1 → z ≡ y +ℤ pos 0 → x ≡ z +ℤ pos 1
    one_above x y z e f = omega (arith, ints)

    less : d.coefficient ≡ 1 → n - 1 ≡ 0 → IsLessDecimal e d
    less one none =
        let below_ten : e.coefficient < 10 = let ten = digit_power_before n some in let power : 10 ^ (n - 1) ≡ 1 =
        ap (λ v. 10 ^ v) none in omega (arith, digits.upper_bound) in
        products d.coefficient e.coefficient (decimal_scale_numerator d.scale) (decimal_scale_denominator d.scale)
        (decimal_scale_numerator e.scale) (decimal_scale_denominator e.scale) one below_ten
        (shifted_decimal_scale e.scale d.scale 1 (one_above d.scale s e.scale next_scale.2 is))
        (mul-pos (decimal_scale_numerator_some e.scale) (decimal_scale_denominator_some d.scale))
      where
        products : (x y ux dx uy dy : ℕ) → x ≡ 1 → y < 10 → ux * dy ≡ 10 ^ 1 * (uy * dx) → 0 < uy * dx
            → y * uy * dx < x * ux * dy
        products x y ux dx uy dy one low step some =
            let left : y * uy * dx ≡ y * (uy * dx) = omega arith in
            let right : x * ux * dy ≡ ux * dy = ap (λ v. v * ux * dy) one ∙ omega arith in
            let strict = scaled_digits_lt y 10 (uy * dx) low some in
            omega arith

    at_count : (j : ℕ) → n - 1 ≡ j → IsPreferredDecimal d e
    at_count zero none = let one : d.coefficient ≡ 1 = next_scale.1
        ∙ ap (λ v. 10 ^ v) none in inr (ap (λ v. v % 2) one, odd, less one none)
    at_count (suc j) more = inl (even_power j d.coefficient (next_scale.1 ∙ ap (λ v. 10 ^ v) more), odd)

-- at a scale with n digits before the point, the nearest multiple is the nearest decimal
nearest_decimal_at_scale : FractionNearestWholeLaw → (n a b : ℕ) (s : ℤ) (m : ℕ) (d : NumeralDecimal) → 0 < n → 0 < b
    → IsScaled n a b s
    → IsFractionNearestWhole (a * decimal_scale_denominator s) (b * decimal_scale_numerator s) m → IsCarried n m s d
    → IsNearestDecimal n a b d
nearest_decimal_at_scale law n a b s m d some some_b at near own = record {
  digits = own.digits;
  nearest = λ e digits. nearest e digits (ordered_decimal_scales s e.scale);
  tie_to_even = λ e digits h. tie e digits h (ordered_decimal_scales s e.scale);
} where
  -- on a finer grid, each decimal with n digits is farther
  finer : (e : NumeralDecimal) (k : ℕ) → HasDigits n e.coefficient → s ≡ e.scale +ℤ pos (suc k)
      → abs_diff (a * decimal_scale_denominator e.scale) (m * 10 ^ suc k * (b * decimal_scale_numerator e.scale))
      < abs_diff (a * decimal_scale_denominator e.scale) (e.coefficient * (b * decimal_scale_numerator e.scale))
  finer e k digits is =
      products (10 ^ (n - 1)) (10 ^ suc k) e.coefficient a b (decimal_scale_numerator s) (decimal_scale_denominator s)
      (decimal_scale_numerator e.scale) (decimal_scale_denominator e.scale)
      (near.near (10 ^ (n - 1))) (shifted_decimal_scale e.scale s (suc k) is) at.low (fewer k digits.upper_bound)
      (decimal_scale_denominator_some s)
      (mul-pos some_b (decimal_scale_numerator_some e.scale))
    where
      fewer : (k : ℕ) → e.coefficient < 10 ^ n → e.coefficient < 10 ^ (n - 1) * 10 ^ suc k
      fewer k h = let more : n ≤ n - 1 + suc k = omega arith in let wide : 10 ^ n ≤ 10 ^ (n - 1) * 10 ^ suc k =
          subst (λ v. 10 ^ n ≤ v) (pow-add 10 (n - 1) (suc k)) (digit_power_up n (n - 1 + suc k) more) in omega arith

      farther : (u v w x : ℕ) → abs_diff u v ≤ abs_diff u w → w ≤ u → x < w → abs_diff u v < abs_diff u x
      farther u v w x close low less = omega arith

      below_both : (x y u v : ℕ) → x ≡ u → y ≡ v → x ≤ y → u ≤ v
      below_both x y u v e f h = omega arith

      spread : (l b u d : ℕ) → l * (b * u) * d ≡ l * b * (u * d)
      spread l b u d = omega arith

      gathered : (l b p u d : ℕ) → l * b * (p * (u * d)) ≡ l * p * (b * u) * d
      gathered l b p u d = omega arith

      regrouped : (l p b us ds ut dt : ℕ) → us * dt ≡ p * (ut * ds) → l * (b * us) * dt ≡ l * p * (b * ut) * ds
      regrouped l p b us ds ut dt step = spread l b us dt ∙ ap (λ v. l * b * v) step ∙ gathered l b p ut ds

      sides : (x y u v : ℕ) → x ≡ u → y ≡ v → abs_diff x y ≡ abs_diff u v
      sides x y u v e f = cc

      rescaled : (k p a b us ds ut dt : ℕ) → us * dt ≡ p * (ut * ds)
          → abs_diff (a * ds) (k * (b * us)) * dt ≡ abs_diff (a * dt) (k * p * (b * ut)) * ds
      rescaled k p a b us ds ut dt step =
          rounding_abs_diff-mul (a * ds) (k * (b * us)) dt ∙ sides _ _ _ _ (mul_right_comm a ds dt)
          (regrouped k p b us ds ut dt step)
          ∙ sym (rounding_abs_diff-mul (a * dt) (k * p * (b * ut)) ds)

      products : (l p x a b us ds ut dt : ℕ) → abs_diff (a * ds) (m * (b * us)) ≤ abs_diff (a * ds) (l * (b * us))
          → us * dt ≡ p * (ut * ds) → l * (b * us) ≤ a * ds → x < l * p → 0 < ds → 0 < b * ut
          → abs_diff (a * dt) (m * p * (b * ut)) < abs_diff (a * dt) (x * (b * ut))
      products l p x a b us ds ut dt close step low few some_s some_t =
          let first : abs_diff (a * ds) (m * (b * us)) * dt ≤ abs_diff (a * ds) (l * (b * us)) * dt =
          mul-le _ dt _ dt close (omega arith) in
          let second : abs_diff (a * dt) (m * p * (b * ut)) * ds ≤ abs_diff (a * dt) (l * p * (b * ut)) * ds =
          below_both _ _ _ _ (rescaled m p a b us ds ut dt step) (rescaled l p a b us ds ut dt step) first in
          let third : l * (b * us) * dt ≤ a * ds * dt = mul-le (l * (b * us)) dt (a * ds) dt low (omega arith) in
          let fourth : l * p * (b * ut) * ds ≤ a * dt * ds =
          below_both _ _ _ _ (regrouped l p b us ds ut dt step) (omega arith) third in
          let fifth : x * (b * ut) ≤ l * p * (b * ut) =
          mul-le x (b * ut) (l * p) (b * ut) (omega arith) (omega arith) in
          farther (a * dt) (m * p * (b * ut)) (l * p * (b * ut)) (x * (b * ut))
          (cancelled_digits_le _ _ ds some_s second)
          (cancelled_digits_le _ _ ds some_s fourth) (scaled_digits_lt x (l * p) (b * ut) few some_t)

  nearest : (e : NumeralDecimal) → HasDigits n e.coefficient → ((k : ℕ) × (e.scale ≡ s +ℤ pos k))
      ⊎ ((k : ℕ) × (s ≡ e.scale +ℤ pos (suc k)))
      → IsDecimalNoFarther a b d e
  nearest e digits (inl above) = decimal_no_farther_on_grid a b d e s m _ own.on
      (decimal_on_grid_below e s above.0 above.1) (near.near _)
  nearest e digits (inr below) =
      let less = finer e below.0 digits below.1 in
      decimal_no_farther_on_grid a b d e e.scale (m * 10 ^ suc below.0) e.coefficient
      (decimal_on_finer_grid d s e.scale m (suc below.0) below.1 own.on) (decimal_on_own_grid e) (omega arith)

  tie : (e : NumeralDecimal) → HasDigits n e.coefficient → IsDecimalNoFarther a b e d
      → ((k : ℕ) × (e.scale ≡ s +ℤ pos k)) ⊎ ((k : ℕ) × (s ≡ e.scale +ℤ pos (suc k)))
      → (d ≡ e) ⊎ IsPreferredDecimal d e
  tie e digits h (inl above) = by_steps above.0 above.1
      (other_rounding_is_odd law (a * decimal_scale_denominator s) (b * decimal_scale_numerator s) m
      (e.coefficient * 10 ^ above.0) (mul-pos some_b (decimal_scale_numerator_some s)) near
      (decimal_steps_closer a b e d s _ m (decimal_on_grid_below e s above.0 above.1) own.on h))
    where
      even : (x p q : ℕ) → p ≡ 10 * q → (x * p) % 2 ≡ 1 → ⊥
      even x p q e odd = let twice : x * p ≡ 2 * (x * (5 * q)) = ap (λ v. x * v) e ∙ omega arith in omega arith

      by_steps : (k : ℕ) → e.scale ≡ s +ℤ pos k
          → (e.coefficient * 10 ^ k ≡ m) ⊎ ((m % 2 ≡ 0) × ((e.coefficient * 10 ^ k) % 2 ≡ 1))
          → (d ≡ e) ⊎ IsPreferredDecimal d e
      by_steps k is (inl same) = inl (same_decimal n m s d e k some own digits is same)
      by_steps zero is (inr odd) =
          inr (preferred_decimal n m s d e some own digits is odd.0 (rw (mul-one e.coefficient) at odd.1))
      by_steps (suc k) is (inr odd) = absurd (even e.coefficient (10 ^ suc k) (10 ^ k) (pow-succ' 10 k) odd.1)
  tie e digits h (inr below) =
      let less = finer e below.0 digits below.1 in
      let more = decimal_steps_closer a b e d e.scale e.coefficient (m * 10 ^ suc below.0) (decimal_on_own_grid e)
      (decimal_on_finer_grid d s e.scale m (suc below.0) below.1 own.on) h in
      absurd (omega arith)

-- the nearest decimal is unique
nearest_decimal_is_unique : (n a b : ℕ) (d e : NumeralDecimal) → IsNearestDecimal n a b d → IsNearestDecimal n a b e
    → d ≡ e
nearest_decimal_is_unique n a b d e own other = elim (own.tie_to_even e other.digits (other.nearest d own.digits)) [
  | inl same ↦ same
  | inr first ↦ elim (other.tie_to_even d own.digits (own.nearest e other.digits)) [
    | inl same ↦ sym same
    | inr second ↦ absurd (both first second)
  ]
] where
  both : IsPreferredDecimal d e → IsPreferredDecimal e d → ⊥
  both (inl p) (inl q) = omega (arith, p.0, q.1)
  both (inl p) (inr q) = omega (arith, p.0, q.1)
  both (inr p) (inl q) = omega (arith, p.1, q.0)
  both (inr p) (inr q) = omega (arith, p.2, q.2)

-- rounding preserves the number of digits, or gives the next power of ten
rounding_keeps_digit_count : (n a b : ℕ) → 0 < b → 10 ^ (n - 1) * b ≤ a → a < 10 ^ n * b
    → (10 ^ (n - 1) ≤ fraction_nearest_whole a b)
    × (fraction_nearest_whole a b ≤ 10 ^ n)
rounding_keeps_digit_count n a b some low high =
    let least : 10 ^ (n - 1) ≤ a / b = le-div (10 ^ (n - 1)) a b some low in
    let below : a / b < 10 ^ n = div_below a b (10 ^ n) some high in
    by_cut (a / b) (nat_cmp (2 * (a % b)) b) least below
  where
    by_cut : (q : ℕ) (cut : Ordering) → 10 ^ (n - 1) ≤ q → q < 10 ^ n
        → (10 ^ (n - 1) ≤ whole_by_fraction_part q cut) × (whole_by_fraction_part q cut ≤ 10 ^ n)
    by_cut q Less h k = (h, omega arith)
    by_cut q Equal h k = (omega arith, omega arith)
    by_cut q Greater h k = (omega arith, omega arith)

-- the nearest whole multiple of the right power of ten is the nearest decimal
rounded_at_scale_is_nearest : FractionNearestWholeLaw → (n a b : ℕ) (s : ℤ) → 0 < n → 0 < b → IsScaled n a b s
    → IsNearestDecimal n a b (rounded_at_scale n a b s)
unfolding rounded_at_scale
rounded_at_scale_is_nearest law n a b s some some_b at =
    let some_step = mul-pos some_b (decimal_scale_numerator_some s) in
    let bounds = rounding_keeps_digit_count n (a * decimal_scale_denominator s) (b * decimal_scale_numerator s)
    some_step at.low at.high in
    nearest_decimal_at_scale law n a b s _ _ some some_b at
    (law (a * decimal_scale_denominator s) (b * decimal_scale_numerator s) some_step).0
    (rounding_carry_is n _ s some bounds.0 bounds.1)

-- the computed decimal is the nearest one
digits_rounding_is_nearest : FractionNearestWholeLaw → (n a b : ℕ) → 0 < n → 0 < a → 0 < b
    → IsNearestDecimal n a b (digits_rounding n a b)
unfolding digits_rounding
digits_rounding_is_nearest law n a b some some_a some_b =
    rounded_at_scale_is_nearest law n a b _ some some_b (rounding_digit_scale n a b some some_a some_b)

-- rounding to n digits gives the nearest decimal, and it is the only one
pub nearest_decimal_law : FractionNearestWholeLaw → NearestDecimalLaw
nearest_decimal_law law n a b some some_a some_b =
    let is = digits_rounding_is_nearest law n a b some some_a some_b in
    (is, λ d own. nearest_decimal_is_unique n a b d (digits_rounding n a b) own is)
