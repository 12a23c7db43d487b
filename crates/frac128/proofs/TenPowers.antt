-- Numbers multiplied and divided by powers of ten.
use Rattle.std.proofs.Common.{◌≡◌, ◌*◌, ◌/◌, ◌^◌, ◌+◌, ◌<◌, ◌≤◌, ℕ, ℤ, suc, pos, negsuc, Bool, true, false, arith, refl}
use Rattle.std.proofs.Common.{sym, ap, subst, ◌∙◌, lit<, lit≤}
use Rattle.std.specs.Prelude.{◌&&◌, Ok, Err, nat_le, if◌then◌else◌}
use Rattle.std.specs.Int.{◌∣◌}
use Rattle.std.proofs.lemmas.Bool.Decides.{nat_tests}
use Rattle.std.proofs.lemmas.Nat.{le-div, mul-le, pow-add}
use Rattle.std.proofs.Math.Nat.{div-le_self, le-mul_of_pos_right, mul_comm, mul-one, mul-div_cancel_left, mul-pos}
use Rattle.std.proofs.Math.Nat.{mul-div_cancel', dvd-mul_left_of_dvd, zero-mul, le_refl, one-dvd, pow-le-pow_right}
use Rattle.std.proofs.lemmas.Nat.Gcd.{le_of_dvd}
use Rattle.std.proofs.lemmas.Bool.{le-leb}
use Rattle.frac128.specs.declared.fault.FracFault.{FracFault}
use Rattle.frac128.specs.declared.fault.FracFault.TheVariants.{Overflow}
use Rattle.frac128.specs.Decimals.{whole_times_ten_power}
use Rattle.frac128.specs.Divisors.{IsLowestTerms, gcd}
use Rattle.frac128.specs.Fraction.{Fraction, fraction_fits, largest_fraction_part, whole_fraction}
use Rattle.frac128.specs.Steps.{fraction_or_overflow, fraction_quotient, ratio}
use Rattle.frac128.proofs.Coprime.{IsCoprime, gcd_one_is_coprime}
use Rattle.frac128.proofs.Euclid.{gcd_is, gcd-mul, gcd_some}
use Rattle.frac128.proofs.Lowest.{coprime_ratio_is_lowest_terms, cross-lowest_terms, lowest_terms-cross}
use Rattle.frac128.proofs.Lowest.{lowest_terms_denominator_some, lowest_terms_gcd}
use Rattle.frac128.proofs.Powers.{denominator_pow_some}
use Rattle.frac128.proofs.Signs.{large_denominator_overflows, large_numerator_overflows, ratio-signed_numerator}

-- powers of ten up to the exponent 38 are at most `10 ^ 38`
pub whole_ten_power_bound : (k : ℕ) → k ≤ 38 → 10 ^ k ≤ 10 ^ 38
whole_ten_power_bound k h = pow-le-pow_right {n = 10} (lit< tt) h

-- a number above 0 with too many zeros after it is out of range
pub numeral_digit_too_wide : (n z d : ℕ) → (n ≡ 0 → ⊥) → 37 < z → n * 10 ^ (z + 1) + d ≤ largest_fraction_part → ⊥
numeral_digit_too_wide n z d other h low =
    let more : 39 ≤ z + 1 = omega arith in
    let power : 10 ^ 39 ≤ 10 ^ (z + 1) = pow-le-pow_right {n = 10} (lit< tt) more in
    let some : 0 < n = omega (arith, other) in
    let times : 10 ^ (z + 1) ≤ n * 10 ^ (z + 1) =
    subst (λ m. 10 ^ (z + 1) ≤ m) (mul_comm (10 ^ (z + 1)) n) (le-mul_of_pos_right (10 ^ (z + 1)) some) in
    let big : largest_fraction_part < 10 ^ 39 = lit< tt in
    omega arith

-- the ratio of two numbers, given their lowest terms
ratio_from_lowest_terms : (a b top bottom : ℕ) → 0 < b → IsLowestTerms a b top bottom
    → ratio (pos a) (pos b) ≡ fraction_or_overflow (record { num = pos top; den = bottom })
ratio_from_lowest_terms a b top bottom some low = ratio-signed_numerator false a b top bottom some low

-- the ratio of two numbers, computed with their greatest common divisor
ratio_from_gcd_quotients : (a b : ℕ) → 0 < b
    → ratio (pos a) (pos b) ≡ fraction_or_overflow (record { num = pos (a / gcd a b); den = b / gcd a b })
ratio_from_gcd_quotients a b some = ratio_from_lowest_terms a b (a / gcd a b) (b / gcd a b) some
    (record { top_is = refl; bottom_is = refl })

-- each number is coprime to 1
pub coprime_one : (a : ℕ) → IsCoprime a 1
coprime_one a = gcd_one_is_coprime a 1 (one-dvd a, one-dvd 1, λ d p q. q)

-- a whole number in range is its ratio to 1
pub whole_ratio : (n : ℕ) → n ≤ largest_fraction_part → ratio (pos n) (pos 1) ≡ Ok (whole_fraction (pos n))
whole_ratio n h = ratio_from_lowest_terms n 1 n 1 (lit< tt)
    (coprime_ratio_is_lowest_terms n 1 (lit< tt) (coprime_one n)) ∙ rw (le-leb n largest_fraction_part h) refl

-- a product with too large a power of ten overflows
pub wide_whole_ten_power_overflows : (n k : ℕ) → 0 < n → (k ≤ 38 → ⊥) → ratio (pos (n * 10 ^ k)) (pos 1) ≡ Err Overflow
wide_whole_ten_power_overflows n k some none =
    let more : 39 ≤ k = omega (arith, none) in
    let power : 10 ^ 39 ≤ 10 ^ k = pow-le-pow_right {n = 10} (lit< tt) more in
    let times : 10 ^ k ≤ n * 10 ^ k =
    subst (λ m. 10 ^ k ≤ m) (mul_comm (10 ^ k) n) (le-mul_of_pos_right (10 ^ k) some) in
    let big : largest_fraction_part < 10 ^ 39 = lit< tt in
    ratio_from_lowest_terms (n * 10 ^ k) 1 (n * 10 ^ k) 1 (lit< tt)
    (coprime_ratio_is_lowest_terms (n * 10 ^ k) 1 (lit< tt) (coprime_one (n * 10 ^ k)))
    ∙ large_numerator_overflows false (n * 10 ^ k) 1 (omega arith)

-- a quotient by too large a power of ten overflows
pub wide_ratio_ten_power_overflows : (n k : ℕ) → 0 < n → n ≤ largest_fraction_part → (k ≤ 38 → ⊥)
    → ratio (pos n) (pos (10 ^ (38 + k))) ≡ Err Overflow
wide_ratio_ten_power_overflows n k some fits_most none =
    let more : 77 ≤ 38 + k = omega (arith, none) in
    let power : 10 ^ 77 ≤ 10 ^ (38 + k) = pow-le-pow_right {n = 10} (lit< tt) more in
    let big : 2 ^ 127 * 2 ^ 127 ≤ 10 ^ 77 = lit≤ tt in
    let some_power = denominator_pow_some 10 (38 + k) (lit< tt) in
    ratio_from_gcd_quotients n (10 ^ (38 + k)) some_power
    ∙ large_denominator_overflows false _ _ (past n (10 ^ (38 + k)) some fits_most some_power (omega arith))
  where
    past : (n d : ℕ) → 0 < n → n ≤ largest_fraction_part → 0 < d → 2 ^ 127 * 2 ^ 127 ≤ d
        → largest_fraction_part < d / gcd n d
    past n d some fraction_fits some_d h =
        let low : gcd n d ≤ 2 ^ 127 = omega (arith, le_of_dvd some (gcd_is n d).0) in
        let times : 2 ^ 127 * gcd n d ≤ 2 ^ 127 * 2 ^ 127 =
        mul-le (2 ^ 127) (gcd n d) (2 ^ 127) (2 ^ 127) (omega arith) low in
        let quotient : 2 ^ 127 ≤ d / gcd n d = le-div (2 ^ 127) d (gcd n d) (gcd_some n d some_d) (omega arith) in
        omega arith

-- if a divisor is multiplied, the denominator of the quotient does not decrease
denominator_grows : (n a b : ℕ) → 0 < a → 0 < b → a / gcd n a ≤ a * b / gcd n (a * b)
denominator_grows n a b some_a some_b =
    let g = gcd n a in
    let h = gcd n (a * b) in
    let some_h : 0 < h = gcd_some n (a * b) (mul-pos some_a some_b) in
    let some_g : 0 < g = gcd_some n a some_a in
    let first : h ∣ b * n = dvd-mul_left_of_dvd h (gcd_is n (a * b)).0 b in
    let second : h ∣ b * a = subst (λ m. h ∣ m) (mul_comm a b) (gcd_is n (a * b)).1 in
    let both : h ∣ b * g = subst (λ m. h ∣ m) (gcd-mul b n a) ((gcd_is (b * n) (b * a)).2 h first second) in
    let low : h ≤ b * g = le_of_dvd (mul-pos some_b some_g) both in
    let whole : a / g * (b * g) ≡ a * b = turned (a / g) b g ∙ ap (λ m. m * b) (mul-div_cancel' g (gcd_is n a).1) in
    le-div (a / g) (a * b) h some_h
    (subst (λ m. a / g * h ≤ m) whole (mul-le (a / g) h (a / g) (b * g) (le_refl (a / g)) low))
  where
    turned : (q b g : ℕ) → q * (b * g) ≡ g * q * b
    turned q b g = omega arith

-- dividing by two numbers in turn gives the lowest terms of dividing by their product
lowest_terms_twice : (n a b p q u v : ℕ) → 0 < a → 0 < b → IsLowestTerms n a p q → IsLowestTerms p (q * b) u v
    → IsLowestTerms n (a * b) u v
lowest_terms_twice n a b p q u v some_a some_b first second =
    let some_q = lowest_terms_denominator_some n a p q some_a first in
    let some_qb = mul-pos some_q some_b in
    let some_v = lowest_terms_denominator_some p (q * b) u v some_qb second in
    let coprime = gcd_one_is_coprime u v (lowest_terms_gcd p (q * b) u v some_qb second) in
    let whole : q * (u * (a * b)) ≡ q * (n * v) =
    turned q u a b ∙ ap (λ m. m * a) (cross-lowest_terms p (q * b) u v second) ∙ swapped p v a
    ∙ ap (λ m. m * v) (cross-lowest_terms n a p q first) ∙ left n q v in
    lowest_terms-cross n (a * b) u v (mul-pos some_a some_b) some_v coprime
    (cancelled q (u * (a * b)) (n * v) some_q whole)
  where
    turned : (q u a b : ℕ) → q * (u * (a * b)) ≡ u * (q * b) * a
    turned q u a b = omega arith

    swapped : (p v a : ℕ) → p * v * a ≡ p * a * v
    swapped p v a = omega arith

    left : (n q v : ℕ) → n * q * v ≡ q * (n * v)
    left n q v = omega arith

    cancelled : (q x y : ℕ) → 0 < q → q * x ≡ q * y → x ≡ y
    cancelled q x y some e = sym (mul-div_cancel_left x some) ∙ ap (λ m. m / q) e ∙ mul-div_cancel_left y some

-- if the result is a fault, the test is false and the fault is `Overflow`
fraction_fits_err : (b : Bool) (x : Fraction) (e : FracFault) → Err e ≡ (if b then Ok x else Err Overflow)
    → (b ≡ false) × (e ≡ Overflow)
fraction_fits_err true x e h = absurd (cc)
fraction_fits_err false x e h = (refl, cc)

-- if the result is a fraction, it is the one that was tested
fraction_fits_ok : (b : Bool) (x y : Fraction) → Ok x ≡ (if b then Ok y else Err Overflow) → x ≡ y
fraction_fits_ok true x y h = cc
fraction_fits_ok false x y h = absurd (cc)

-- if the first of two divisions fails, so does the division by the product
ratio_twice_err : (n a b : ℕ) (e : FracFault) → n ≤ largest_fraction_part → 0 < a → 0 < b
    → Err e ≡ ratio (pos n) (pos a)
    → ratio (pos n) (pos (a * b)) ≡ Err e
ratio_twice_err n a b e low some_a some_b h =
    let x : Fraction = record { num = pos (n / gcd n a); den = a / gcd n a } in
    let no = fraction_fits_err (fraction_fits x) x e (h ∙ ratio_from_gcd_quotients n a some_a) in
    let past : largest_fraction_part < a / gcd n a = high (n / gcd n a) (a / gcd n a)
    (omega (arith, div-le_self n (gcd n a))) no.0 in
    rw no.1 (ratio_from_gcd_quotients n (a * b) (mul-pos some_a some_b)
    ∙ large_denominator_overflows false (n / gcd n (a * b)) (a * b / gcd n (a * b))
    (omega (arith, denominator_grows n a b some_a some_b)))
  where
    high : (p q : ℕ) → p ≤ largest_fraction_part
        → (nat_le p largest_fraction_part && nat_le q largest_fraction_part) ≡ false → largest_fraction_part < q
    high p q h e = grind (arith, nat_tests)

-- two divisions in turn are a division by the product
ratio_twice_ok : (n a b : ℕ) (x : Fraction) → 0 < a → 0 < b → Ok x ≡ ratio (pos n) (pos a)
    → fraction_quotient x (whole_fraction (pos b)) ≡ ratio (pos n) (pos (a * b))
ratio_twice_ok n a b x some_a some_b h =
    let p = n / gcd n a in
    let q = a / gcd n a in
    let y : Fraction = record { num = pos p; den = q } in
    let first : IsLowestTerms n a p q = record { top_is = refl; bottom_is = refl } in
    let second : IsLowestTerms p (q * b) (p / gcd p (q * b)) (q * b / gcd p (q * b)) =
    record { top_is = refl; bottom_is = refl } in
    let some_qb = mul-pos (lowest_terms_denominator_some n a p q some_a first) some_b in
    ap (λ z. fraction_quotient z (whole_fraction (pos b)))
    (fraction_fits_ok (fraction_fits y) x y (h ∙ ratio_from_gcd_quotients n a some_a))
    ∙ ap (λ m. ratio (pos m) (pos (q * b))) (mul-one p)
    ∙ ratio_from_lowest_terms p (q * b) _ _ some_qb second
    ∙ sym (ratio_from_lowest_terms n (a * b) _ _ (mul-pos some_a some_b)
    (lowest_terms_twice n a b p q _ _ some_a some_b first second))

-- if the first of the two divisions that the code makes fails, so does the whole
pub ratio_by_ten_power_err : (n k : ℕ) (e : FracFault) → n ≤ largest_fraction_part
    → Err e ≡ ratio (pos n) (pos (10 ^ 38))
    → ratio (pos n) (pos (10 ^ (38 + k))) ≡ Err e
ratio_by_ten_power_err n k e low h = ap (λ d. ratio (pos n) (pos d)) (pow-add 10 38 k)
    ∙ ratio_twice_err n (10 ^ 38) (10 ^ k) e low (lit< tt) (denominator_pow_some 10 k (lit< tt)) h

-- the two divisions that the code makes are one division
pub ratio_by_ten_power_ok : (n k : ℕ) (x : Fraction) → Ok x ≡ ratio (pos n) (pos (10 ^ 38))
    → fraction_quotient x (whole_fraction (pos (10 ^ k))) ≡ ratio (pos n) (pos (10 ^ (38 + k)))
ratio_by_ten_power_ok n k x h = ratio_twice_ok n (10 ^ 38) (10 ^ k) x (lit< tt) (denominator_pow_some 10 k (lit< tt)) h
    ∙ ap (λ d. ratio (pos n) (pos d)) (sym (pow-add 10 38 k))

-- 0 times any power of ten is 0
pub zero_times_ten_power : (s : ℤ) → whole_times_ten_power 0 s ≡ Ok (whole_fraction (pos 0))
zero_times_ten_power (pos k) = ap (λ m. ratio (pos m) (pos 1)) (zero-mul (10 ^ k))
    ∙ ratio_from_lowest_terms 0 1 0 1 (lit< tt) (coprime_ratio_is_lowest_terms 0 1 (lit< tt) (coprime_one 0))
zero_times_ten_power (negsuc k) =
    let some = denominator_pow_some 10 (suc k) (lit< tt) in
    ratio_from_lowest_terms 0 (10 ^ suc k) 0 1 some
    (lowest_terms-cross 0 (10 ^ suc k) 0 1 some (lit< tt) (coprime_one 0) (zero-mul (10 ^ suc k)))
