-- Sums over a common multiple of the denominators.
use Rattle.std.proofs.Common.{◌≡◌, ◌*◌, ◌/◌, ◌<◌, ◌≤◌, ◌+ℤ◌, ◌-ℤ◌, ◌*ℤ◌, ℕ, ℤ, pos, neg_ℤ, suc, zero, Bool, true, false}
use Rattle.std.proofs.Common.{unsigned_abs, arith, refl, sym, ap, ◌∙◌}
use Rattle.std.specs.Prelude.{int_lt, Ok, Err, if◌then◌else◌}
use Rattle.std.specs.Int.{IsGcd}
use Rattle.std.proofs.Math.Nat.{mul_comm, mul-div_cancel', mul-div_cancel_left, mul-pos, mul-zero, div-le_self}
use Rattle.std.proofs.lemmas.Bool.{le-leb}
use Rattle.frac128.specs.declared.fault.FracFault.{FracFault}
use Rattle.frac128.specs.declared.fault.FracFault.TheVariants.{Overflow}
use Rattle.frac128.specs.Divisors.{gcd, lcm}
use Rattle.frac128.specs.Fraction.{Fraction, fraction_fits, largest_fraction_part, opposite_fraction}
use Rattle.frac128.specs.Sign.{signed_numerator}
use Rattle.frac128.specs.Steps.{lowest_terms, ratio}
use Rattle.frac128.specs.Sums.{in_numerator_range, fraction_step_over, fraction_difference, fraction_sum}
use Rattle.frac128.specs.Sums.{fraction_sum_over, numerator_or_overflow, numerator_over}
use Rattle.frac128.proofs.Euclid.{gcd_is}
use Rattle.frac128.proofs.Multiples.{lcm-left, lcm-right}
use Rattle.frac128.proofs.QuotientLaws.{lowest_terms_from_sign}
use Rattle.frac128.proofs.SumDivisors.{fraction_sum_shares_gcd}
use Rattle.frac128.proofs.Signs.{abs-signed_numerator, fraction_signs_differ-false, mul-signed_numerator}
use Rattle.frac128.proofs.Signs.{numerator_is_signed}
use Rattle.general_lemmas.proofs.Integers.{abs-neg, neg-times}

-- the least common multiple divided by one denominator is the other one divided by the greatest common divisor
pub lcm-div : (b d : ℕ) → 0 < b → 0 < d → (lcm b d / b ≡ d / gcd b d) × (lcm b d / d ≡ b / gcd b d)
lcm-div b d some_b some_d = (
  ap (λ n. n / b) (lcm-right b d) ∙ mul-div_cancel_left (d / gcd b d) some_b,
  ap (λ n. n / d) (lcm-left b d ∙ mul_comm (b / gcd b d) d) ∙ mul-div_cancel_left (b / gcd b d) some_d,
)

-- the magnitudes of the numerators of two fractions, their denominators, and these divided by their greatest common
-- divisor
pub record IsParts (x y : Fraction) (b d g p q top other : ℕ) : Type 0 where
  pub b_is : b ≡ x.den
  pub d_is : d ≡ y.den
  pub g_is : g ≡ gcd b d
  pub p_is : p ≡ b / g
  pub q_is : q ≡ d / g
  pub some_b : 0 < b
  pub some_d : 0 < d
  pub top_is : top ≡ unsigned_abs x.num
  pub other_is : other ≡ unsigned_abs y.num

-- the parts, given the value of each of them
pub are_fraction_parts : (x y : Fraction) {b d g p q top other : ℕ} → b ≡ x.den → d ≡ y.den → g ≡ gcd b d → p ≡ b / g
    → q ≡ d / g
    → 0 < b → 0 < d → top ≡ unsigned_abs x.num → other ≡ unsigned_abs y.num → IsParts x y b d g p q top other
are_fraction_parts x y b_is d_is g_is p_is q_is some_b some_d top_is other_is = record {
  b_is = b_is;
  d_is = d_is;
  g_is = g_is;
  p_is = p_is;
  q_is = q_is;
  some_b = some_b;
  some_d = some_d;
  top_is = top_is;
  other_is = other_is;
}

-- a numerator times a factor, with its sign and magnitude
numerator-signed : (n : ℤ) (s : Bool) (a k : ℕ) → s ≡ int_lt n (pos 0) → a ≡ unsigned_abs n
    → n *ℤ pos k ≡ signed_numerator s (a * k)
numerator-signed n s a k p q = ap (λ z. z *ℤ pos k) (numerator_is_signed n)
    ∙ rw (← p, ← q) (mul-signed_numerator s false a k ∙ ap (λ t. signed_numerator t (a * k))
    (fraction_signs_differ-false s))

-- if the result is a fault, it is `Overflow` and the test is false
numerator_if_err : (b : Bool) (z : ℤ) (e : FracFault) → Err e ≡ (if b then Ok z else Err Overflow)
    → (b ≡ false) × (e ≡ Overflow)
numerator_if_err true z e h = absurd (cc)
numerator_if_err false z e h = (refl, cc)

-- if the result is a number, it is the given one and the test is true
numerator_if_ok : (b : Bool) (n z : ℤ) → Ok n ≡ (if b then Ok z else Err Overflow) → (b ≡ true) × (n ≡ z)
numerator_if_ok true n z h = (refl, cc)
numerator_if_ok false n z h = absurd (cc)

-- a fault of `numerator_or_overflow` is `Overflow`, and the number is out of range
numerator_or_overflow_err : (z : ℤ) (e : FracFault) → Err e ≡ numerator_or_overflow z
    → (in_numerator_range z ≡ false) × (e ≡ Overflow)
numerator_or_overflow_err z e h = numerator_if_err (in_numerator_range z) z e h

-- a result of `numerator_or_overflow` is the number itself, which is in range
pub numerator_or_overflow_ok : (n z : ℤ) → Ok n ≡ numerator_or_overflow z → (in_numerator_range z ≡ true) × (n ≡ z)
numerator_or_overflow_ok n z h = numerator_if_ok (in_numerator_range z) n z h

-- a reduced quotient of numbers in range fits
reduced_fraction_fits : (z : ℤ) (m : ℕ) → unsigned_abs z ≤ largest_fraction_part → m ≤ largest_fraction_part
    → fraction_fits (lowest_terms z m) ≡ true
reduced_fraction_fits z m top bottom =
    let g = gcd (unsigned_abs z) m in
    let low : unsigned_abs z / g ≤ largest_fraction_part = omega (arith, div-le_self (unsigned_abs z) g) in
    let high : m / g ≤ largest_fraction_part = omega (arith, div-le_self m g) in
    rw (
      lowest_terms_from_sign z m,
      abs-signed_numerator (int_lt z (pos 0)) (unsigned_abs z / g),
      le-leb (unsigned_abs z / g) largest_fraction_part low,
      le-leb (m / g) largest_fraction_part high,
    ) refl

-- a sum in range over a denominator in range is their ratio
pub fraction_sum_over-ratio : (m : ℕ) (z : ℤ) → 0 < m → m ≤ largest_fraction_part
    → unsigned_abs z ≤ largest_fraction_part → ratio z (pos m) ≡ fraction_sum_over m z
fraction_sum_over-ratio zero z some low h = absurd (omega arith)
fraction_sum_over-ratio (suc m) z some low h =
    rw (reduced_fraction_fits z (suc m) h low, le-leb (unsigned_abs z) largest_fraction_part h) refl

-- if the multiple is out of range, the step fails
fraction_step_over-multiple : (step : ℤ → ℤ → ℤ) (m : ℕ) (l r : ℤ) (e : FracFault)
    → Err e ≡ numerator_or_overflow (pos m)
    → fraction_step_over step m l r ≡ Err e
fraction_step_over-multiple step m l r e h = let no = numerator_or_overflow_err (pos m) e h in rw (no.0, no.1) refl

-- if the first numerator is out of range, the step fails
fraction_step_over-left : (step : ℤ → ℤ → ℤ) (m : ℕ) (l r n : ℤ) (e : FracFault) → Ok n ≡ numerator_or_overflow (pos m)
    → Err e ≡ numerator_or_overflow l
    → fraction_step_over step m l r ≡ Err e
fraction_step_over-left step m l r n e p h = let no = numerator_or_overflow_err l e h in
    rw ((numerator_or_overflow_ok n (pos m) p).0, no.0, no.1) refl

-- if the second numerator is out of range, the step fails
fraction_step_over-right : (step : ℤ → ℤ → ℤ) (m : ℕ) (l r n k : ℤ) (e : FracFault)
    → Ok n ≡ numerator_or_overflow (pos m)
    → Ok k ≡ numerator_or_overflow l
    → Err e ≡ numerator_or_overflow r
    → fraction_step_over step m l r ≡ Err e
fraction_step_over-right step m l r n k e p q h = let no =
    numerator_or_overflow_err r e h in
    rw ((numerator_or_overflow_ok n (pos m) p).0, (numerator_or_overflow_ok k l q).0, no.0, no.1) refl

-- if all parts are in range, the step gives the sum over the multiple
fraction_step_over-sum : (step : ℤ → ℤ → ℤ) (m : ℕ) (l r n k j : ℤ) → Ok n ≡ numerator_or_overflow (pos m)
    → Ok k ≡ numerator_or_overflow l
    → Ok j ≡ numerator_or_overflow r
    → fraction_step_over step m l r ≡ fraction_sum_over (unsigned_abs n) (step k j)
fraction_step_over-sum step m l r n k j p q h =
    let n_is = numerator_or_overflow_ok n (pos m) p in
    let k_is = numerator_or_overflow_ok k l q in
    let j_is = numerator_or_overflow_ok j r h in
    rw (n_is.0, k_is.0, j_is.0, n_is.1, k_is.1, j_is.1) refl

-- the sum, computed from the parts that the code makes
fraction_sum_from_parts : (x y : Fraction) (b d g p q top other : ℕ) (s t : Bool) → IsParts x y b d g p q top other
    → s ≡ int_lt x.num (pos 0)
    → t ≡ int_lt y.num (pos 0)
    → fraction_sum x y ≡ fraction_step_over ◌+ℤ◌ (p * d) (signed_numerator s (top * q)) (signed_numerator t (other * p))
fraction_sum_from_parts x y b d g p q top other s t is s_is t_is =
    rw (
      sym (numerator-signed x.num s top q s_is is.top_is),
      sym (numerator-signed y.num t other p t_is is.other_is),
      is.p_is,
      is.q_is,
      is.g_is,
      is.b_is,
      is.d_is,
    )
    (by_divisor x y (rw (← is.b_is) is.some_b) (rw (← is.d_is) is.some_d))
  where
    by_divisor : (x y : Fraction) → 0 < x.den → 0 < y.den
        → fraction_sum x y ≡ fraction_step_over ◌+ℤ◌ (x.den / gcd x.den y.den * y.den)
        (x.num *ℤ pos (y.den / gcd x.den y.den))
        (y.num *ℤ pos (x.den / gcd x.den y.den))
    by_divisor x y some_x some_y =
        let parts = lcm-div x.den y.den some_x some_y in
        ap (λ k. fraction_step_over ◌+ℤ◌ (lcm x.den y.den) (x.num *ℤ pos k) (y.num *ℤ pos (lcm x.den y.den / y.den)))
        parts.0
        ∙ ap (λ k. fraction_step_over ◌+ℤ◌ (lcm x.den y.den) (x.num *ℤ pos (y.den / gcd x.den y.den)) (y.num *ℤ pos k))
        parts.1
        ∙ ap (λ m. fraction_step_over ◌+ℤ◌ m (x.num *ℤ pos (y.den / gcd x.den y.den))
        (y.num *ℤ pos (x.den / gcd x.den y.den)))
        (lcm-left x.den y.den)

-- the least common multiple is above 0
pub denominator_multiple_some : (x y : Fraction) (b d g p q top other : ℕ) → IsParts x y b d g p q top other → 0 < p * d
denominator_multiple_some x y b d g p q top other is = mul-pos (above p refl) is.some_d
  where
    above : (n : ℕ) → p ≡ n → 0 < n
    above zero e =
        let none : g * 0 ≡ b = ap (λ n. g * n) (sym e ∙ is.p_is) ∙ mul-div_cancel' g (rw is.g_is (gcd_is b d).0) in
        let some = is.some_b in
        absurd (omega (arith, mul-zero g))
    above (suc n) e = omega arith

-- if the multiple is out of range, the sum fails
pub fraction_sum-multiple : (x y : Fraction) (b d g p q top other : ℕ) (e : FracFault) → IsParts x y b d g p q top other
    → Err e ≡ numerator_or_overflow (pos (p * d)) → fraction_sum x y ≡ Err e
fraction_sum-multiple x y b d g p q top other e is h =
    fraction_sum_from_parts x y b d g p q top other _ _ is refl refl
    ∙ fraction_step_over-multiple ◌+ℤ◌ (p * d) (signed_numerator (int_lt x.num (pos 0)) (top * q))
    (signed_numerator (int_lt y.num (pos 0)) (other * p)) e h

-- if the first numerator is out of range, the sum fails
pub fraction_sum-left : (x y : Fraction) (b d g p q top other : ℕ) (s : Bool) (n : ℤ) (e : FracFault)
    → IsParts x y b d g p q top other
    → s ≡ int_lt x.num (pos 0)
    → Ok n ≡ numerator_or_overflow (pos (p * d)) → Err e ≡ numerator_or_overflow (signed_numerator s (top * q))
    → fraction_sum x y ≡ Err e
fraction_sum-left x y b d g p q top other s n e is s_is m h =
    fraction_sum_from_parts x y b d g p q top other s _ is s_is refl
    ∙ fraction_step_over-left ◌+ℤ◌ (p * d) (signed_numerator s (top * q))
    (signed_numerator (int_lt y.num (pos 0)) (other * p)) n e
    m h

-- if the second numerator is out of range, the sum fails
pub fraction_sum-right : (x y : Fraction) (b d g p q top other : ℕ) (s t : Bool) (n k : ℤ) (e : FracFault)
    → IsParts x y b d g p q top other
    → s ≡ int_lt x.num (pos 0) → t ≡ int_lt y.num (pos 0)
    → Ok n ≡ numerator_or_overflow (pos (p * d)) → Ok k ≡ numerator_or_overflow (signed_numerator s (top * q))
    → Err e ≡ numerator_or_overflow (signed_numerator t (other * p))
    → fraction_sum x y ≡ Err e
fraction_sum-right x y b d g p q top other s t n k e is s_is t_is m l h =
    fraction_sum_from_parts x y b d g p q top other s t is s_is t_is
    ∙ fraction_step_over-right ◌+ℤ◌ (p * d) (signed_numerator s (top * q)) (signed_numerator t (other * p)) n k e m l h

-- if all parts are in range, the sum is that of the numerators over the multiple
pub fraction_sum-numerators : (x y : Fraction) (b d g p q top other : ℕ) (s t : Bool) (n k j : ℤ)
    → IsParts x y b d g p q top other
    → s ≡ int_lt x.num (pos 0) → t ≡ int_lt y.num (pos 0)
    → Ok n ≡ numerator_or_overflow (pos (p * d)) → Ok k ≡ numerator_or_overflow (signed_numerator s (top * q))
    → Ok j ≡ numerator_or_overflow (signed_numerator t (other * p))
    → fraction_sum x y ≡ fraction_sum_over (unsigned_abs n) (k +ℤ j)
fraction_sum-numerators x y b d g p q top other s t n k j is s_is t_is m l h =
    fraction_sum_from_parts x y b d g p q top other s t is s_is t_is
    ∙ fraction_step_over-sum ◌+ℤ◌ (p * d) (signed_numerator s (top * q)) (signed_numerator t (other * p)) n k j m l h

-- the common divisors of the sum and the multiple are those of the sum and the greatest common divisor of the
-- denominators
pub fraction_sum-shared_gcd : (x y : Fraction) (b d g p q top other : ℕ) (s t : Bool) (n k j : ℤ)
    → IsParts x y b d g p q top other
    → IsGcd top b 1
    → IsGcd other d 1
    → Ok n ≡ numerator_or_overflow (pos (p * d)) → Ok k ≡ numerator_or_overflow (signed_numerator s (top * q))
    → Ok j ≡ numerator_or_overflow (signed_numerator t (other * p))
    → gcd (unsigned_abs (k +ℤ j)) g ≡ gcd (unsigned_abs (k +ℤ j)) (unsigned_abs n)
fraction_sum-shared_gcd x y b d g p q top other s t n k j is first second m l h =
    rw (
      (numerator_or_overflow_ok n (pos (p * d)) m).1,
      (numerator_or_overflow_ok k (signed_numerator s (top * q)) l).1,
      (numerator_or_overflow_ok j (signed_numerator t (other * p)) h).1,
      is.p_is,
      is.q_is,
      is.g_is,
    )
    (sym (fraction_sum_shares_gcd s t top b other d is.some_b is.some_d first second))

-- a difference is the sum with the negated second fraction
pub fraction_difference-opposite : (x y : Fraction) → fraction_difference x y ≡ fraction_sum x (opposite_fraction y)
fraction_difference-opposite x y =
    let m = lcm x.den y.den in
    turned m (numerator_over x m) (numerator_over y m)
    ∙ ap (λ r. fraction_step_over ◌+ℤ◌ m (numerator_over x m) r) (neg-times y.num (m / y.den))
  where
    turned : (m : ℕ) (l r : ℤ) → fraction_step_over ◌-ℤ◌ m l r ≡ fraction_step_over ◌+ℤ◌ m l (neg_ℤ r)
    turned m l r = rw (abs-neg r) refl
