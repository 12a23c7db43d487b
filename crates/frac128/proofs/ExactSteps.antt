-- Steps on fractions have the values of the exact sums, differences and products.
use Rattle.std.proofs.Common.{◌≡◌, ◌*◌, ◌/◌, ◌<◌, ◌+ℤ◌, ◌-ℤ◌, ◌*ℤ◌, ℕ, ℤ, pos, negsuc, neg_ℤ, suc, zero, Bool, true}
use Rattle.std.proofs.Common.{false, arith, refl, sym, ap, ◌∙◌}
use Rattle.std.specs.Prelude.{◌&&◌, Ok, Err, if◌then◌else◌}
use Rattle.std.specs.Int.{◌∣◌}
use Rattle.std.proofs.lemmas.Int.{ints}
use Rattle.std.proofs.Math.IntN.{*ℤ-negsuc, *ℤ-zero, *ℤ_comm, neg_ℤ-neg_ℤ, pos-*ℤ-negsuc, suc_ℤ-*ℤ}
use Rattle.std.proofs.Math.Nat.{mul-div_cancel', mul-pos, mul-zero, mul_comm}
use Rattle.frac128.specs.declared.fault.FracFault.TheVariants.{Overflow}
use Rattle.frac128.specs.Divisors.{gcd, lcm}
use Rattle.frac128.specs.Exact.{ExactFractionStepsLaw, exact_fraction_difference, exact_fraction_sum}
use Rattle.frac128.specs.Fraction.{AreEquivalentFractions, Fraction, fraction_fits, opposite_fraction}
use Rattle.frac128.specs.Steps.{fraction_or_overflow, lowest_terms, ratio}
use Rattle.frac128.specs.Sums.{in_numerator_range, fraction_step_over, fraction_difference, fraction_sum}
use Rattle.frac128.specs.Sums.{numerator_over}
use Rattle.frac128.proofs.Euclid.{gcd_is}
use Rattle.frac128.proofs.Multiples.{lcm-times}
use Rattle.frac128.proofs.QuotientLaws.{lowest_terms-value}
use Rattle.frac128.proofs.Sums.{fraction_difference-opposite, lcm-div}
use Rattle.general_lemmas.proofs.Integers.{neg-times, mul-twice}

-- if a step over a multiple has a result, this is the reduced quotient
fraction_step_over_ok : (step : ℤ → ℤ → ℤ) (m : ℕ) (l r : ℤ) (y : Fraction) → fraction_step_over step m l r ≡ Ok y
    → y ≡ lowest_terms (step l r) m
fraction_step_over_ok step m l r y h = by_tests (in_numerator_range (pos m)) (in_numerator_range l)
    (in_numerator_range r) (in_numerator_range (step l r)) h
  where
    by_tests : (a b c d : Bool)
        → (if a && b && c then (if d then Ok (lowest_terms (step l r) m) else Err Overflow) else Err Overflow) ≡ Ok y
        → y ≡ lowest_terms (step l r) m
    by_tests true true true true e = cc
    by_tests true true true false e = absurd (cc)
    by_tests true true false d e = absurd (cc)
    by_tests true false c d e = absurd (cc)
    by_tests false b c d e = absurd (cc)

-- a result of `fraction_or_overflow` is the fraction itself
fraction_or_overflow_ok : (x y : Fraction) → fraction_or_overflow x ≡ Ok y → y ≡ x
fraction_or_overflow_ok x y h = by_test (fraction_fits x) h
  where
    by_test : (b : Bool) → (if b then Ok x else Err Overflow) ≡ Ok y → y ≡ x
    by_test true e = cc
    by_test false e = absurd (cc)

-- multiplication distributes over a sum
numerator_mul-sum : (y z : ℤ) (g : ℕ) → (y +ℤ z) *ℤ pos g ≡ (y *ℤ pos g) +ℤ (z *ℤ pos g)
numerator_mul-sum y z zero = rw (*ℤ-zero y, *ℤ-zero z, *ℤ-zero (y +ℤ z)) refl
numerator_mul-sum y z (suc g) =
    more (y +ℤ z) g ∙ ap (λ k. k +ℤ (y +ℤ z)) (numerator_mul-sum y z g) ∙ exchanged (y *ℤ pos g) (z *ℤ pos g) y z
    ∙ ap (λ k. k +ℤ ((z *ℤ pos g) +ℤ z)) (sym (more y g)) ∙ ap (λ k. (y *ℤ pos (suc g)) +ℤ k) (sym (more z g))
  where
    more : (z : ℤ) (g : ℕ) → z *ℤ pos (suc g) ≡ (z *ℤ pos g) +ℤ z
    more z g = *ℤ_comm z (pos (suc g)) ∙ suc_ℤ-*ℤ (pos g) z ∙ ap (λ k. k +ℤ z) (*ℤ_comm (pos g) z)

    exchanged : (a b y z : ℤ) → (a +ℤ b) +ℤ (y +ℤ z) ≡ (a +ℤ y) +ℤ (b +ℤ z)
    exchanged a b y z = omega (arith, ints)

-- a common factor of numerator and denominator does not change the value
scaled_fraction_is_equivalent : (z : Fraction) (n : ℤ) (m g : ℕ)
    → AreEquivalentFractions z (record { num = n; den = m })
    → AreEquivalentFractions z (record { num = n *ℤ pos g; den = m * g })
scaled_fraction_is_equivalent z n m g same =
    sym (mul-twice z.num m g) ∙ ap (λ k. k *ℤ pos g) same ∙ mul-twice n z.den g
    ∙ ap (λ k. n *ℤ pos k) (mul_comm z.den g) ∙ sym (mul-twice n g z.den)

-- the value of a sum
fraction_sum_value : (x y z : Fraction) → 0 < x.den → 0 < y.den → fraction_sum x y ≡ Ok z
    → AreEquivalentFractions z (exact_fraction_sum x y)
fraction_sum_value x y z some_x some_y h =
    let g = gcd x.den y.den in
    let m = lcm x.den y.den in
    let l = numerator_over x m in
    let r = numerator_over y m in
    let is : z ≡ lowest_terms (l +ℤ r) m = fraction_step_over_ok ◌+ℤ◌ m l r z h in
    let same : AreEquivalentFractions z (record { num = l +ℤ r; den = m }) = rw is (lowest_terms-value (l +ℤ r) m) in
    let parts = lcm-div x.den y.den some_x some_y in
    let left : l *ℤ pos g ≡ x.num *ℤ pos y.den =
    over_divisor x.num (m / x.den) y.den g parts.0 (gcd_is x.den y.den).1 in
    let right : r *ℤ pos g ≡ y.num *ℤ pos x.den =
    over_divisor y.num (m / y.den) x.den g parts.1 (gcd_is x.den y.den).0 in
    ap (λ d. z.num *ℤ pos d) (sym (lcm-times x.den y.den)) ∙ scaled_fraction_is_equivalent z (l +ℤ r) m g same
    ∙ ap (λ n. n *ℤ pos z.den)
    (numerator_mul-sum l r g ∙ ap (λ k. k +ℤ (r *ℤ pos g)) left ∙ ap (λ k. (x.num *ℤ pos y.den) +ℤ k) right)
  where
    over_divisor : (n : ℤ) (k d g : ℕ) → k ≡ d / g → g ∣ d → n *ℤ pos k *ℤ pos g ≡ n *ℤ pos d
    over_divisor n k d g e divides = mul-twice n k g
        ∙ ap (λ k. n *ℤ pos k) (ap (λ k. k * g) e ∙ mul_comm (d / g) g ∙ mul-div_cancel' g divides)

-- the value of a difference
fraction_difference_value : (x y z : Fraction) → 0 < x.den → 0 < y.den → fraction_difference x y ≡ Ok z
    → AreEquivalentFractions z (exact_fraction_difference x y)
fraction_difference_value x y z some_x some_y h =
    fraction_sum_value x (opposite_fraction y) z some_x some_y (sym (fraction_difference-opposite x y) ∙ h)
    ∙ ap (λ n. n *ℤ pos z.den)
    (ap (λ k. (x.num *ℤ pos y.den) +ℤ k) (sym (neg-times y.num x.den)) ∙ less (x.num *ℤ pos y.den) (y.num *ℤ pos x.den))
  where
    less : (a b : ℤ) → a +ℤ neg_ℤ b ≡ a -ℤ b
    less a b = omega (arith, ints)

-- the value of a quotient by a number above 0
ratio_value : (n : ℤ) (d : ℕ) (z : Fraction) → 0 < d → ratio n (pos d) ≡ Ok z
    → AreEquivalentFractions z (record { num = n; den = d })
ratio_value n zero z some h = absurd (omega arith)
ratio_value n (suc d) z some h = rw (fraction_or_overflow_ok (lowest_terms n (suc d)) z h)
    (lowest_terms-value n (suc d))

-- the product of a quotient and its divisor has the value of the dividend
fraction_quotient_value : (n m : ℤ) (b d : ℕ) (z : Fraction) → 0 < b → ratio (n *ℤ pos d) (pos b *ℤ m) ≡ Ok z
    → z.num *ℤ m *ℤ pos b ≡ n *ℤ pos (z.den * d)
fraction_quotient_value n (pos zero) b d z some h = absurd (none (b * 0) (mul-zero b) h)
  where
    none : (k : ℕ) → k ≡ 0 → ratio (n *ℤ pos d) (pos k) ≡ Ok z → ⊥
    none zero e h = cc
    none (suc k) e h = omega arith
fraction_quotient_value n (pos (suc k)) b d z some h =
    mul-twice z.num (suc k) b ∙ ap (λ j. z.num *ℤ pos j) (mul_comm (suc k) b)
    ∙ ratio_value (n *ℤ pos d) (b * suc k) z (mul-pos some (omega arith)) h ∙ mul-twice n d z.den
    ∙ ap (λ j. n *ℤ pos j) (mul_comm d z.den)
fraction_quotient_value n (negsuc k) b d z some h =
    ap (λ j. j *ℤ pos b) (*ℤ-negsuc z.num k) ∙ sym (neg-times (z.num *ℤ pos (suc k)) b)
    ∙ ap neg_ℤ (mul-twice z.num (suc k) b ∙ ap (λ j. z.num *ℤ pos j) (mul_comm (suc k) b)
    ∙ below (b * suc k) (mul-pos some (omega arith)) (ap (ratio (n *ℤ pos d)) (sym (pos-*ℤ-negsuc b k)) ∙ h))
    ∙ ap neg_ℤ (sym (neg-times (n *ℤ pos d) z.den)) ∙ neg_ℤ-neg_ℤ (n *ℤ pos d *ℤ pos z.den) ∙ mul-twice n d z.den
    ∙ ap (λ j. n *ℤ pos j) (mul_comm d z.den)
  where
    below : (j : ℕ) → 0 < j → ratio (n *ℤ pos d) (neg_ℤ (pos j)) ≡ Ok z
        → z.num *ℤ pos j ≡ neg_ℤ (n *ℤ pos d) *ℤ pos z.den
    below zero some h = absurd (omega arith)
    below (suc j) some h =
        rw (fraction_or_overflow_ok (lowest_terms (neg_ℤ (n *ℤ pos d)) (suc j)) z h)
        (lowest_terms-value (neg_ℤ (n *ℤ pos d)) (suc j))

-- the law of the steps
pub exact_fraction_steps_law : ExactFractionStepsLaw
exact_fraction_steps_law x y z some_x some_y = (
  fraction_sum_value x y z some_x some_y,
  fraction_difference_value x y z some_x some_y,
  ratio_value (x.num *ℤ y.num) (x.den * y.den) z (mul-pos some_x some_y),
  fraction_quotient_value x.num y.num x.den y.den z some_x,
)
