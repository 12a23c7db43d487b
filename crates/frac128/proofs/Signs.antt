-- Ratios of numbers that are given by their signs and magnitudes.
use Rattle.std.proofs.Common.{◌≡◌, ◌*◌, ◌/◌, ◌<◌, ◌≤◌, ℕ, suc, zero, ℤ, pos, negsuc, neg_ℤ, ◌*ℤ◌, Bool, true, false}
use Rattle.std.proofs.Common.{not, arith, refl, sym, ap, ◌∙◌, unsigned_abs, inl, inr}
use Rattle.std.specs.Prelude.{int_lt, int_div, Err, nat_le, ◌⊎◌, ◌^◌}
use Rattle.std.proofs.lemmas.Int.{ints, unsigned_abs-mul}
use Rattle.std.proofs.Math.IntN.{*ℤ_comm, pos-*ℤ-negsuc, negsuc-*ℤ-pos}
use Rattle.std.proofs.Math.Nat.{zero-div, mul-zero, zero-mul, mul-pos}
use Rattle.frac128.specs.Divisors.{gcd, HasWideLowestTerms, IsLowestTerms}
use Rattle.frac128.specs.Fraction.{Fraction, largest_fraction_part}
use Rattle.frac128.specs.declared.fault.FracFault.TheVariants.{Overflow}
use Rattle.std.proofs.lemmas.Bool.{lt-leb}
use Rattle.std.proofs.Math.Bool.{and-false}
use Rattle.frac128.specs.Sign.{signed_numerator, fraction_signs_differ, whole_signs_differ}
use Rattle.frac128.specs.Steps.{fraction_or_overflow, ratio, lowest_terms, fraction_product, fraction_quotient}

-- the magnitude of a signed number
pub abs-signed_numerator : (s : Bool) (a : ℕ) → unsigned_abs (signed_numerator s a) ≡ a
abs-signed_numerator false a = refl
abs-signed_numerator true zero = refl
abs-signed_numerator true (suc a) = refl

-- dividing by a number above 0 keeps the sign
div-signed_numerator : (s : Bool) (a g : ℕ) → int_div (signed_numerator s a) (pos g) ≡ signed_numerator s (a / g)
div-signed_numerator false a g = refl
div-signed_numerator true zero g = ap pos (zero-div g) ∙ ap (λ n. neg_ℤ (pos n)) (sym (zero-div g))
div-signed_numerator true (suc a) g = refl

-- a signed number over a number above 0, in lowest terms
pub lowest_terms-signed_numerator : (s : Bool) (a b top bottom : ℕ) → IsLowestTerms a b top bottom
    → lowest_terms (signed_numerator s a) b ≡ record { num = signed_numerator s top; den = bottom }
unfolding lowest_terms
lowest_terms-signed_numerator s a b top bottom low =
    rw (abs-signed_numerator s a, div-signed_numerator s a (gcd a b), low.top_is, low.bottom_is) refl

-- each number has its sign and its magnitude
pub numerator_is_signed : (n : ℤ) → n ≡ signed_numerator (int_lt n (pos 0)) (unsigned_abs n)
numerator_is_signed (pos n) = let plus : int_lt (pos n) (pos 0) ≡ false = grind (arith, ints) in rw plus refl
numerator_is_signed (negsuc n) = refl

-- a product is negative if the signs differ
pub mul-signed_numerator : (s t : Bool) (a c : ℕ) → signed_numerator s a *ℤ signed_numerator t c ≡ signed_numerator
    (fraction_signs_differ s t)
    (a * c)
mul-signed_numerator false false a c = refl
mul-signed_numerator false true a zero = rw (mul-zero a) refl
mul-signed_numerator false true a (suc c) = pos-*ℤ-negsuc a c
mul-signed_numerator true false zero c = rw (zero-mul c) refl
mul-signed_numerator true false (suc a) c = negsuc-*ℤ-pos a c
mul-signed_numerator true true zero c = zero_times (neg_ℤ (pos c)) ∙ ap pos (sym (zero-mul c))
  where
    zero_times : (z : ℤ) → pos 0 *ℤ z ≡ pos 0
    zero_times z = omega (arith, ints)
mul-signed_numerator true true (suc a) zero = rw (mul-zero (suc a)) refl
mul-signed_numerator true true (suc a) (suc c) = refl

-- negation flips the sign
pub neg-signed_numerator : (s : Bool) (a : ℕ) → neg_ℤ (signed_numerator s a) ≡ signed_numerator (not s) a
neg-signed_numerator false a = refl
neg-signed_numerator true zero = refl
neg-signed_numerator true (suc a) = refl

-- the ratio of a signed number and a number above 0
pub ratio-signed_numerator : (s : Bool) (a b top bottom : ℕ) → 0 < b → IsLowestTerms a b top bottom
    → ratio (signed_numerator s a) (pos b) ≡ fraction_or_overflow
    (record { num = signed_numerator s top; den = bottom })
ratio-signed_numerator s a zero top bottom some low = absurd (omega arith)
ratio-signed_numerator s a (suc b) top bottom some low =
    ap fraction_or_overflow (lowest_terms-signed_numerator s a (suc b) top bottom low)

-- a sign differs from plus if it is minus
pub fraction_signs_differ-false : (s : Bool) → fraction_signs_differ s false ≡ s
fraction_signs_differ-false true = refl
fraction_signs_differ-false false = refl

-- a sign differs from minus if it is plus
fraction_signs_differ-true : (s : Bool) → fraction_signs_differ s true ≡ not s
fraction_signs_differ-true true = refl
fraction_signs_differ-true false = refl

-- the ratio of two numbers, computed from their signs and magnitudes
pub ratio_from_signs : (n d : ℤ) (top bottom : ℕ) → 0 < unsigned_abs d
    → IsLowestTerms (unsigned_abs n) (unsigned_abs d) top bottom
    → ratio n d ≡ fraction_or_overflow (record { num = signed_numerator (whole_signs_differ n d) top; den = bottom })
ratio_from_signs n (pos zero) top bottom some low = absurd (omega arith)
ratio_from_signs n (pos (suc d)) top bottom some low =
    let plus : int_lt (pos (suc d)) (pos 0) ≡ false = grind (arith, ints) in
    ap (λ z. ratio z (pos (suc d))) (numerator_is_signed n) ∙ ratio-signed_numerator _ _ (suc d) top bottom some low
    ∙ ap (λ s. fraction_or_overflow (record { num = signed_numerator s top; den = bottom }))
    (sym (ap (fraction_signs_differ _) plus ∙ fraction_signs_differ-false _))
ratio_from_signs n (negsuc d) top bottom some low =
    ap (λ z. ratio z (negsuc d)) (numerator_is_signed n)
    ∙ ap (λ z. fraction_or_overflow (lowest_terms z (suc d))) (neg-signed_numerator (int_lt n (pos 0)) (unsigned_abs n))
    ∙ ap fraction_or_overflow (lowest_terms-signed_numerator _ _ (suc d) top bottom low)
    ∙ ap (λ s. fraction_or_overflow (record { num = signed_numerator s top; den = bottom }))
    (sym (fraction_signs_differ-true _))

-- the product of two fractions, computed from their signs and magnitudes
pub fraction_product_from_signs : (x y : Fraction) (top bottom : ℕ) → 0 < x.den → 0 < y.den
    → IsLowestTerms (unsigned_abs x.num * unsigned_abs y.num) (x.den * y.den) top bottom
    → fraction_product x y ≡ fraction_or_overflow
    (record { num = signed_numerator (whole_signs_differ x.num y.num) top; den = bottom })
fraction_product_from_signs x y top bottom some_x some_y low =
    ap (λ z. ratio z (pos (x.den * y.den))) (product_is x.num y.num)
    ∙ ratio-signed_numerator _ _ (x.den * y.den) top bottom (mul-pos some_x some_y) low
  where
    product_is : (m n : ℤ) → m *ℤ n ≡ signed_numerator (whole_signs_differ m n) (unsigned_abs m * unsigned_abs n)
    product_is m n = ap (λ z. z *ℤ n) (numerator_is_signed m) ∙ ap (λ z. signed_numerator _ (unsigned_abs m) *ℤ z)
        (numerator_is_signed n)
        ∙ mul-signed_numerator _ _ (unsigned_abs m) (unsigned_abs n)

-- a fraction with a part of more than 128 bits does not fit
pub wide_fraction_overflows : (s : Bool) (top bottom : ℕ) → (2 ^ 128 ≤ top) ⊎ (2 ^ 128 ≤ bottom)
    → fraction_or_overflow (record { num = signed_numerator s top; den = bottom }) ≡ Err Overflow
wide_fraction_overflows s top bottom (inl h) =
    rw (abs-signed_numerator s top, lt-leb top largest_fraction_part (omega arith)) refl
wide_fraction_overflows s top bottom (inr h) =
    rw (
      lt-leb bottom largest_fraction_part (omega arith),
      and-false
          (nat_le (unsigned_abs (signed_numerator s top)) largest_fraction_part),
    ) refl

-- if the product of two fractions is too wide, it overflows
pub wide_fraction_product_overflows : (x y : Fraction) → 0 < x.den → 0 < y.den
    → HasWideLowestTerms (unsigned_abs x.num * unsigned_abs y.num) (x.den * y.den)
    → fraction_product x y ≡ Err Overflow
wide_fraction_product_overflows x y some_x some_y wide = fraction_product_from_signs x y _ _ some_x some_y
    (record { top_is = refl; bottom_is = refl })
    ∙ wide_fraction_overflows _ _ _ wide

-- a fraction whose numerator is too large does not fit
pub large_numerator_overflows : (s : Bool) (top bottom : ℕ) → largest_fraction_part < top
    → fraction_or_overflow (record { num = signed_numerator s top; den = bottom }) ≡ Err Overflow
large_numerator_overflows s top bottom h = rw (abs-signed_numerator s top, lt-leb top largest_fraction_part h) refl

-- a fraction whose denominator is too large does not fit
pub large_denominator_overflows : (s : Bool) (top bottom : ℕ) → largest_fraction_part < bottom
    → fraction_or_overflow (record { num = signed_numerator s top; den = bottom }) ≡ Err Overflow
large_denominator_overflows s top bottom h =
    rw (
      lt-leb bottom largest_fraction_part h,
      and-false
          (nat_le (unsigned_abs (signed_numerator s top)) largest_fraction_part),
    ) refl

-- no natural number is below 0
pub natural_numerator_is_not_negative : (n : ℕ) → int_lt (pos n) (pos 0) ≡ false
natural_numerator_is_not_negative n = grind (arith, ints)

-- a factor above 0 on the right keeps the sign
pub numerator_factor_keeps_sign : (z : ℤ) (d : ℕ) → 0 < d → int_lt (z *ℤ pos d) (pos 0) ≡ int_lt z (pos 0)
numerator_factor_keeps_sign (pos n) d some = natural_numerator_is_not_negative (n * d)
    ∙ sym (natural_numerator_is_not_negative n)
numerator_factor_keeps_sign (negsuc n) zero some = absurd (omega arith)
numerator_factor_keeps_sign (negsuc n) (suc d) some =
    below (suc n * suc d) (mul-pos {m = suc n} {n = suc d} (omega arith) some)
  where
    below : (m : ℕ) → 0 < m → int_lt (neg_ℤ (pos m)) (pos 0) ≡ true
    below zero h = absurd (omega arith)
    below (suc m) h = refl

-- a factor above 0 on the left keeps the sign
numerator_factor_left_keeps_sign : (z : ℤ) (d : ℕ) → 0 < d → int_lt (pos d *ℤ z) (pos 0) ≡ int_lt z (pos 0)
numerator_factor_left_keeps_sign z d some = ap (λ m. int_lt m (pos 0)) (*ℤ_comm (pos d) z)
    ∙ numerator_factor_keeps_sign z d some

-- the quotient of two fractions, computed from their signs and magnitudes
pub fraction_quotient_from_signs : (x y : Fraction) (top bottom : ℕ) → 0 < x.den → 0 < y.den → 0 < unsigned_abs y.num
    → IsLowestTerms (unsigned_abs x.num * y.den) (x.den * unsigned_abs y.num) top bottom
    → fraction_quotient x y ≡ fraction_or_overflow
    (record { num = signed_numerator (whole_signs_differ x.num y.num) top; den = bottom })
fraction_quotient_from_signs x y top bottom some_x some_y some low =
    ratio_from_signs (x.num *ℤ pos y.den) (pos x.den *ℤ y.num) top bottom
    (rw (unsigned_abs-mul (pos x.den) y.num) (mul-pos some_x some))
    (rw (unsigned_abs-mul x.num (pos y.den), unsigned_abs-mul (pos x.den) y.num) low)
    ∙ ap (λ s. fraction_or_overflow (record { num = signed_numerator s top; den = bottom }))
    (ap (λ s. fraction_signs_differ s (int_lt (pos x.den *ℤ y.num) (pos 0)))
    (numerator_factor_keeps_sign x.num y.den some_y)
    ∙ ap (fraction_signs_differ (int_lt x.num (pos 0))) (numerator_factor_left_keeps_sign y.num x.den some_x))

-- if the quotient of two fractions is too wide, it overflows
pub wide_fraction_quotient_overflows : (x y : Fraction) → 0 < x.den → 0 < y.den → 0 < unsigned_abs y.num
    → HasWideLowestTerms (unsigned_abs x.num * y.den) (x.den * unsigned_abs y.num)
    → fraction_quotient x y ≡ Err Overflow
wide_fraction_quotient_overflows x y some_x some_y some wide = fraction_quotient_from_signs x y _ _ some_x some_y some
    (record { top_is = refl; bottom_is = refl })
    ∙ wide_fraction_overflows _ _ _ wide

-- the magnitude of a number other than 0 is above 0
pub nonzero_numerator_abs : (d : ℤ) → (d ≡ pos 0 → ⊥) → 0 < unsigned_abs d
nonzero_numerator_abs (pos zero) other = absurd (other refl)
nonzero_numerator_abs (pos (suc d)) other = omega arith
nonzero_numerator_abs (negsuc d) other = omega arith
