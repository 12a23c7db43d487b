-- Decimals as whole numbers of steps of a power of ten, and their distances from a fraction.
use Rattle.std.proofs.Common.{◌≡◌, ◌<◌, ◌≤◌, ◌*◌, ◌^◌, ◌+ℤ◌, ℕ, ℤ, pos, arith, refl, sym, ap, ◌∙◌}
use Rattle.std.specs.Int.{abs_diff}
use Rattle.std.proofs.lemmas.Nat.{mul-le}
use Rattle.std.proofs.Math.Nat.{mul_right_comm, eq_of_mul-eq-mul_right}
use Rattle.frac128.specs.Decimals.{NumeralDecimal}
use Rattle.digits_print.specs.Nearest.{IsDecimalNoFarther, decimal_scale_denominator, decimal_scale_numerator}
use Rattle.digits_print.specs.Nearest.{gap_of_decimal}
use Rattle.digits_print.proofs.Products.{cancelled_digits_le, rounding_abs_diff-mul}
use Rattle.digits_print.proofs.Scales.{decimal_scale_denominator_some, shifted_decimal_scale}

-- d is m steps of ten to the scale s
pub record IsOnGrid (d : NumeralDecimal) (s : ℤ) (m : ℕ) : Type 0 where
  pub steps : d.coefficient * decimal_scale_numerator d.scale * decimal_scale_denominator s ≡ m *
      decimal_scale_numerator s * decimal_scale_denominator d.scale

-- a decimal is a multiple of its own power of ten
pub decimal_on_own_grid : (d : NumeralDecimal) → IsOnGrid d d.scale d.coefficient
decimal_on_own_grid d = record { steps = refl }

-- a multiple of a power of ten is a multiple of each smaller one
pub decimal_on_finer_grid : (d : NumeralDecimal) (s t : ℤ) (m k : ℕ) → s ≡ t +ℤ pos k → IsOnGrid d s m
    → IsOnGrid d t (m * 10 ^ k)
decimal_on_finer_grid d s t m k e on =
    record {
      steps = products d.coefficient (decimal_scale_numerator d.scale) (decimal_scale_denominator d.scale) m (10 ^ k)
          (decimal_scale_numerator s) (decimal_scale_denominator s) (decimal_scale_numerator t)
          (decimal_scale_denominator t) on.steps
          (shifted_decimal_scale t s k e) (decimal_scale_denominator_some s);
    }
  where
    products : (x ux dx m p us ds ut dt : ℕ) → x * ux * ds ≡ m * us * dx → us * dt ≡ p * (ut * ds) → 0 < ds
        → x * ux * dt ≡ m * p * ut * dx
    products x ux dx m p us ds ut dt on step some =
        let left : x * ux * dt * ds ≡ m * us * dx * dt = mul_right_comm (x * ux) dt ds ∙ ap (λ n. n * dt) on in
        let right : m * p * ut * dx * ds ≡ m * dx * (p * (ut * ds)) = omega arith in
        let middle : m * us * dx * dt ≡ m * dx * (us * dt) = omega arith in
        eq_of_mul-eq-mul_right ds some (x * ux * dt) (m * p * ut * dx)
        (left ∙ middle ∙ ap (λ n. m * dx * n) step ∙ sym right)

-- a decimal is a multiple of each smaller power of ten
pub decimal_on_grid_below : (d : NumeralDecimal) (s : ℤ) (k : ℕ) → d.scale ≡ s +ℤ pos k
    → IsOnGrid d s (d.coefficient * 10 ^ k)
decimal_on_grid_below d s k e = decimal_on_finer_grid d d.scale s d.coefficient k e (decimal_on_own_grid d)

-- the distance of a decimal in terms of its steps
gap_of_decimal_on_grid : (a b : ℕ) (d : NumeralDecimal) (s : ℤ) (m : ℕ) → IsOnGrid d s m
    → gap_of_decimal a b d * decimal_scale_denominator s ≡ abs_diff (a * decimal_scale_denominator s)
    (m * (b * decimal_scale_numerator s)) * decimal_scale_denominator d.scale
unfolding gap_of_decimal
gap_of_decimal_on_grid a b d s m on =
    rounding_abs_diff-mul (a * decimal_scale_denominator d.scale) (d.coefficient * decimal_scale_numerator d.scale * b)
    (decimal_scale_denominator s)
    ∙ sides (a * decimal_scale_denominator d.scale * decimal_scale_denominator s)
    (d.coefficient * decimal_scale_numerator d.scale * b * decimal_scale_denominator s)
    (a * decimal_scale_denominator s * decimal_scale_denominator d.scale)
    (m * (b * decimal_scale_numerator s) * decimal_scale_denominator d.scale)
    (omega arith) (mul_right_comm (d.coefficient * decimal_scale_numerator d.scale) b (decimal_scale_denominator s)
    ∙ ap (λ n. n * b) on.steps
    ∙ gathered m (decimal_scale_numerator s) (decimal_scale_denominator d.scale) b)
    ∙ sym (rounding_abs_diff-mul (a * decimal_scale_denominator s) (m * (b * decimal_scale_numerator s))
    (decimal_scale_denominator d.scale))
  where
    sides : (x y u v : ℕ) → x ≡ u → y ≡ v → abs_diff x y ≡ abs_diff u v
    sides x y u v e f = cc

    gathered : (m u d b : ℕ) → m * u * d * b ≡ m * (b * u) * d
    gathered m u d b = omega arith

-- two decimals on the same grid are compared by their steps
pub decimal_no_farther_on_grid : (a b : ℕ) (d e : NumeralDecimal) (s : ℤ) (m k : ℕ) → IsOnGrid d s m → IsOnGrid e s k
    → abs_diff (a * decimal_scale_denominator s) (m * (b * decimal_scale_numerator s)) ≤ abs_diff
    (a * decimal_scale_denominator s) (k * (b * decimal_scale_numerator s)) → IsDecimalNoFarther a b d e
decimal_no_farther_on_grid a b d e s m k on_d on_e h = products (gap_of_decimal a b d) (gap_of_decimal a b e)
    (abs_diff (a * decimal_scale_denominator s) (m * (b * decimal_scale_numerator s)))
    (abs_diff (a * decimal_scale_denominator s) (k * (b * decimal_scale_numerator s)))
    (decimal_scale_denominator d.scale) (decimal_scale_denominator e.scale) (decimal_scale_denominator s)
    (gap_of_decimal_on_grid a b d s m on_d) (gap_of_decimal_on_grid a b e s k on_e) h (decimal_scale_denominator_some s)
  where
    products : (g f x y dd de ds : ℕ) → g * ds ≡ x * dd → f * ds ≡ y * de → x ≤ y → 0 < ds → g * de ≤ f * dd
    products g f x y dd de ds own other h some =
        let times : x * (dd * de) ≤ y * (dd * de) = mul-le x (dd * de) y (dd * de) h (omega arith) in
        let left : g * de * ds ≡ x * (dd * de) = mul_right_comm g de ds ∙ ap (λ n. n * de) own ∙ omega arith in
        let right : f * dd * ds ≡ y * (dd * de) = mul_right_comm f dd ds ∙ ap (λ n. n * dd) other ∙ omega arith in
        cancelled_digits_le (g * de) (f * dd) ds some (omega arith)

-- if one decimal is no farther than another on the same grid, its steps are no farther either
pub decimal_steps_closer : (a b : ℕ) (d e : NumeralDecimal) (s : ℤ) (m k : ℕ) → IsOnGrid d s m → IsOnGrid e s k
    → IsDecimalNoFarther a b d e
    → abs_diff (a * decimal_scale_denominator s) (m * (b * decimal_scale_numerator s)) ≤ abs_diff
    (a * decimal_scale_denominator s) (k * (b * decimal_scale_numerator s))
decimal_steps_closer a b d e s m k on_d on_e h = products (gap_of_decimal a b d) (gap_of_decimal a b e)
    (abs_diff (a * decimal_scale_denominator s) (m * (b * decimal_scale_numerator s)))
    (abs_diff (a * decimal_scale_denominator s) (k * (b * decimal_scale_numerator s)))
    (decimal_scale_denominator d.scale) (decimal_scale_denominator e.scale) (decimal_scale_denominator s)
    (gap_of_decimal_on_grid a b d s m on_d) (gap_of_decimal_on_grid a b e s k on_e) h
    (decimal_scale_denominator_some d.scale) (decimal_scale_denominator_some e.scale)
  where
    products : (g f x y dd de ds : ℕ) → g * ds ≡ x * dd → f * ds ≡ y * de → g * de ≤ f * dd → 0 < dd → 0 < de → x ≤ y
    products g f x y dd de ds own other h some_d some_e =
        let times : g * de * ds ≤ f * dd * ds = mul-le (g * de) ds (f * dd) ds h (omega arith) in
        let left : g * de * ds ≡ x * de * dd = mul_right_comm g de ds ∙ ap (λ n. n * de) own ∙ omega arith in
        let right : f * dd * ds ≡ y * de * dd = mul_right_comm f dd ds ∙ ap (λ n. n * dd) other in
        cancelled_digits_le x y de some_e (cancelled_digits_le (x * de) (y * de) dd some_d (omega arith))
