-- Each step of an evaluation yields a number whose denominator is above 0.
use Rattle.std.proofs.Common.{◌≡◌, ◌∙◌, ◌<◌, ◌*◌, ◌&&◌, ◌^◌, ◌*ℤ◌, ◌+ℤ◌, ◌-ℤ◌, arith, refl, sym, subst, ℕ, ℤ, pos}
use Rattle.std.proofs.Common.{negsuc, neg_ℤ, suc, zero, Bool, true, false, if◌then◌else◌, List, [], ◌∷◌, Some, Result}
use Rattle.std.proofs.Common.{Ok, Err, find, cond}
use Rattle.std.proofs.Math.Nat.{mul-pos, mul-zero, mul_comm}
use Rattle.std.specs.List.{AllByRecursion as Each}
use Rattle.std.specs.Int.{int_pow}
use Rattle.std.specs.Ordering.{is_eq}
use Rattle.frac128.specs.declared.fault.FracFault.{FracFault}
use Rattle.frac128.specs.declared.fault.FracFault.TheVariants.{Overflow}
use Rattle.frac128.specs.Decimals.{NumeralDecimal, fraction_of_decimal}
use Rattle.frac128.specs.Divisors.{gcd, lcm}
use Rattle.frac128.specs.Fraction.{Fraction, fraction_fits}
use Rattle.frac128.specs.Order.{fraction_order}
use Rattle.frac128.specs.Powers.{fraction_power}
use Rattle.frac128.specs.Roots.{fraction_root}
use Rattle.frac128.specs.Steps as step
use Rattle.frac128.specs.Steps.{ReducedFractionLaw, fraction_or_overflow, fraction_product, fraction_quotient}
use Rattle.frac128.specs.Steps.{lowest_terms, ratio}
use Rattle.frac128.specs.Sums.{fraction_difference, fraction_step_over, fraction_sum, fraction_sum_over}
use Rattle.frac128.specs.Sums.{in_numerator_range, numerator_over}
use Rattle.frac128.proofs.Multiples.{lcm-times}
use Rattle.piecewise.specs.Lines.{Point, swapped_point, y_on_line_of_points}
use Rattle.piecewise.specs.Tables.{PointSegment, point_segment_holds_y, segments_of_points, value_on_point_segment}
use Rattle.piecewise.specs.Tables.{x_at_y_on_points, x_on_point_segment}
use Rattle.quantity.specs.Powers.{quantity_number_power, quantity_number_root_power}
use Rattle.general_lemmas.proofs.Results.{same_Ok}

-- the denominator of a result, if there is one, is above 0
abbrev pub IsPositive : {E : Type 0} → Result Fraction E → Type 0
IsPositive r = (x : Fraction) → r ≡ Ok x → 0 < x.den

pub reply-denominator-of-ok : {E : Type 0} (x : Fraction) → 0 < x.den → IsPositive {E = E} (Ok x)
reply-denominator-of-ok x h y e = subst (λ (z : Fraction). 0 < z.den) (same_Ok x y e) h

pub reply-denominator-of-err : {E : Type 0} (fault : E) → IsPositive (Err fault)
reply-denominator-of-err fault y e = absurd (cc)

reply-denominator-of-branch : {E : Type 0} (b : Bool) (r s : Result Fraction E) → IsPositive r → IsPositive s
    → IsPositive (if b then r else s)
reply-denominator-of-branch true r s h k = h
reply-denominator-of-branch false r s h k = k

-- two steps in turn yield a denominator above 0
pub reply-denominator-of-then : {A : Type 0} (r : Result A FracFault) (f : A → Result Fraction FracFault)
    → ((x : A) → IsPositive (f x)) → IsPositive (step.◌>>=◌ r f)
reply-denominator-of-then (Ok x) f h = h x
reply-denominator-of-then (Err fault) f h = reply-denominator-of-err fault

-- ---- least common multiples
reply-denominator-of-lcm : (a b : ℕ) → 0 < a → 0 < b → 0 < lcm a b
reply-denominator-of-lcm a b some_a some_b = go (lcm a b) (lcm-times a b)
  where
    no-product : (p : ℕ) → 0 < p → 0 * gcd a b ≡ p → ⊥
    no-product p some e =
        let none : 0 ≡ p = sym (mul_comm 0 (gcd a b) ∙ mul-zero (gcd a b)) ∙ e in
        omega arith

    go : (m : ℕ) → m * gcd a b ≡ a * b → 0 < m
    go zero e = absurd (no-product (a * b) (mul-pos some_a some_b) e)
    go (suc m) e = omega arith

-- a point has an x whose denominator is above 0
abbrev pub HasPositive : Point → Type 0
HasPositive p = 0 < p.0.den

module _ (law : ReducedFractionLaw) where
  reduced-positive : (n : ℤ) (d : ℕ) → 0 < d → 0 < (lowest_terms n d).den
  reduced-positive n d some = (law n d some).0.den_positive

  fitting-positive : (x : Fraction) → 0 < x.den → IsPositive (fraction_or_overflow x)
  fitting-positive x h = reply-denominator-of-branch (fraction_fits x) (Ok x) (Err Overflow)
      (reply-denominator-of-ok x h) (reply-denominator-of-err Overflow)

  pub ratio-positive : (n d : ℤ) → IsPositive (ratio n d)
  ratio-positive n (pos zero) = reply-denominator-of-err _
  ratio-positive n (pos (suc d)) = fitting-positive (lowest_terms n (suc d)) (reduced-positive n (suc d) (omega arith))
  ratio-positive n (negsuc d) =
      fitting-positive (lowest_terms (neg_ℤ n) (suc d)) (reduced-positive (neg_ℤ n) (suc d) (omega arith))

  pub over-positive : (x y : Fraction) → IsPositive (fraction_quotient x y)
  over-positive x y = ratio-positive (x.num *ℤ pos y.den) (pos x.den *ℤ y.num)

  pub times-positive : (x y : Fraction) → IsPositive (fraction_product x y)
  times-positive x y = ratio-positive (x.num *ℤ y.num) (pos (x.den * y.den))

  pub value-positive : (d : NumeralDecimal) → IsPositive (fraction_of_decimal d)
  value-positive d = go d.coefficient d.scale
    where
      go : (n : ℕ) (k : ℤ) → IsPositive (fraction_of_decimal (record { coefficient = n; scale = k }))
      go n (pos k) = ratio-positive (pos (n * 10 ^ k)) (pos 1)
      go n (negsuc k) = ratio-positive (pos n) (pos (10 ^ suc k))

  power-positive : (x : Fraction) (k : ℤ) → IsPositive (fraction_power x k)
  power-positive x (pos n) = ratio-positive (int_pow x.num n) (pos (x.den ^ n))
  power-positive x (negsuc n) = ratio-positive (pos (x.den ^ suc n)) (int_pow x.num (suc n))

  root-positive : (root : Result Fraction FracFault) (k : ℤ) → IsPositive (quantity_number_root_power root k)
  root-positive (Ok root) k = power-positive root k
  root-positive (Err fault) k = reply-denominator-of-err fault

  pub powered-positive : (x by : Fraction) → IsPositive (quantity_number_power x by)
  powered-positive x by = root-positive (fraction_root x by.den) by.num

  sum-positive : (step : ℤ → ℤ → ℤ) (m : ℕ) (l r : ℤ) → 0 < m → IsPositive (fraction_step_over step m l r)
  sum-positive step m l r some =
      reply-denominator-of-branch (in_numerator_range (pos m) && in_numerator_range l && in_numerator_range r)
      (fraction_sum_over m (step l r)) (Err Overflow)
      (reply-denominator-of-branch (in_numerator_range (step l r)) (Ok (lowest_terms (step l r) m)) (Err Overflow)
      (reply-denominator-of-ok (lowest_terms (step l r) m) (reduced-positive (step l r) m some))
      (reply-denominator-of-err Overflow))
      (reply-denominator-of-err Overflow)

  pub plus-positive : (x y : Fraction) → 0 < x.den → 0 < y.den → IsPositive (fraction_sum x y)
  plus-positive x y some_x some_y =
      let multiple = lcm x.den y.den in
      sum-positive ◌+ℤ◌ multiple (numerator_over x multiple) (numerator_over y multiple)
      (reply-denominator-of-lcm x.den y.den some_x some_y)

  pub minus-positive : (x y : Fraction) → 0 < x.den → 0 < y.den → IsPositive (fraction_difference x y)
  minus-positive x y some_x some_y =
      let multiple = lcm x.den y.den in
      sum-positive ◌-ℤ◌ multiple (numerator_over x multiple) (numerator_over y multiple)
      (reply-denominator-of-lcm x.den y.den some_x some_y)

  -- ---- tables of points
  -- the last step on a line, the sum of a quotient and a number
  added-positive : (x : Fraction) → 0 < x.den → (r : Result Fraction FracFault) → IsPositive r
      → IsPositive (step.◌>>=◌ r (λ part. fraction_sum x part))
  added-positive x some (Ok part) h = plus-positive x part some (h part refl)
  added-positive x some (Err fault) h = reply-denominator-of-err fault

  line-positive : (p q : Point) (x : Fraction) → 0 < p.1.den → IsPositive (y_on_line_of_points p q x)
  unfolding y_on_line_of_points
  line-positive p q x some =
      reply-denominator-of-then (fraction_difference q.1 p.1) _ (λ rise.
      reply-denominator-of-then (fraction_difference x p.0) _ (λ run.
      reply-denominator-of-then (fraction_product rise run) _ (λ product.
      reply-denominator-of-then (fraction_difference q.0 p.0) _ (λ width.
      added-positive p.1 some (fraction_quotient product width) (over-positive product width)))))

  segment-positive : (y : Fraction) (s : PointSegment) → 0 < s.left_end.0.den → IsPositive (x_on_point_segment y s)
  segment-positive y s some =
      reply-denominator-of-branch (is_eq (fraction_order s.left_end.1 s.right_end.1)) (Ok s.left_end.0)
      (y_on_line_of_points (swapped_point s.left_end) (swapped_point s.right_end) y)
      (reply-denominator-of-ok s.left_end.0 some)
      (line-positive (swapped_point s.left_end) (swapped_point s.right_end) y some)

  segments-positive : (points : List Point) → Each HasPositive points
      → Each (λ (s : PointSegment). 0 < s.left_end.0.den) (segments_of_points points)
  segments-positive [] h = tt
  segments-positive (p ∷ []) h = tt
  segments-positive (p ∷ q ∷ points) h = (h.0, segments-positive (q ∷ points) h.1)

  found-positive : (test : PointSegment → Bool) (all : List PointSegment)
      → Each (λ (s : PointSegment). 0 < s.left_end.0.den) all
      → (y : Fraction) → IsPositive (value_on_point_segment (x_on_point_segment y) (find test all))
  found-positive test [] h y = reply-denominator-of-err _
  found-positive test (s ∷ all) h y = go (test s) (found-positive test all h.1 y)
    where
      numbered-positive : (r : Result Fraction FracFault) → IsPositive r
          → IsPositive (value_on_point_segment (λ z. r) (Some s))
      numbered-positive (Ok x) k = reply-denominator-of-ok x (k x refl)
      numbered-positive (Err fault) k = reply-denominator-of-err _

      go : (b : Bool) → IsPositive (value_on_point_segment (x_on_point_segment y) (find test all))
          → IsPositive (value_on_point_segment (x_on_point_segment y) (cond b (Some s) (find test all)))
      go true rest = numbered-positive (x_on_point_segment y s) (segment-positive y s h.0)
      go false rest = rest

  pub x-positive : (points : List Point) (y : Fraction) → Each HasPositive points
      → IsPositive (x_at_y_on_points points y)
  unfolding x_at_y_on_points
  x-positive points y h = found-positive (point_segment_holds_y y) (segments_of_points points)
      (segments-positive points h) y
