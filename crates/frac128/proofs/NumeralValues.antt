-- The value of a numeral, computed from all its digits.
use Rattle.std.proofs.Common.{◌≡◌, ◌*◌, ◌+◌, ◌-◌, ◌^◌, ◌<◌, ◌+ℤ◌, ◌-ℤ◌, ◌/◌, ℕ, ℤ, pos, negsuc, suc, zero, List, false}
use Rattle.std.proofs.Common.{arith, refl, sym, ap, ◌∙◌, lit<, inl, inr}
use Rattle.std.specs.Prelude.{◌==◌, if◌then◌else◌}
use Rattle.std.proofs.lemmas.Bool.{cases_lt}
use Rattle.std.proofs.lemmas.Bool.Decides.{nat_tests}
use Rattle.std.proofs.lemmas.Int.{ints}
use Rattle.std.proofs.lemmas.Nat.{pow-add}
use Rattle.std.proofs.Math.Nat.{mul-pos, zero-mul}
use Rattle.frac128.specs.Decimals.{NumeralLaw, decimal_of_numeral, numeral_coefficient, numeral_digits}
use Rattle.frac128.specs.Decimals.{numeral_end_zeros, numeral_exponent, numeral_exponent_part, numeral_mantissa}
use Rattle.frac128.specs.Decimals.{fraction_of_decimal, numeral_decimal_places, value_of_numeral_digits}
use Rattle.frac128.specs.Decimals.{whole_times_ten_power}
use Rattle.frac128.specs.Divisors.{IsLowestTerms, gcd}
use Rattle.frac128.specs.Steps.{ratio}
use Rattle.frac128.proofs.Coprime.{gcd_one_is_coprime}
use Rattle.frac128.proofs.DigitRuns.{numeral_number-without}
use Rattle.frac128.proofs.Lowest.{cross-lowest_terms, lowest_terms-cross, lowest_terms_denominator_some}
use Rattle.frac128.proofs.Lowest.{lowest_terms_gcd}
use Rattle.frac128.proofs.Powers.{denominator_pow_some}
use Rattle.frac128.proofs.Signs.{ratio-signed_numerator}
use Rattle.frac128.proofs.TenPowers.{zero_times_ten_power}

-- a common factor of numerator and denominator cancels
ratio-mul : (a b m : ℕ) → 0 < b → 0 < m → ratio (pos (a * m)) (pos (b * m)) ≡ ratio (pos a) (pos b)
ratio-mul a b m some some_m =
    let p = a / gcd a b in
    let q = b / gcd a b in
    let low : IsLowestTerms a b p q = record { top_is = refl; bottom_is = refl } in
    let cross : p * (b * m) ≡ a * m * q = turned p b m ∙ ap (λ n. n * m) (cross-lowest_terms a b p q low)
    ∙ back a m q in
    let wide = lowest_terms-cross (a * m) (b * m) p q (mul-pos some some_m)
    (lowest_terms_denominator_some a b p q some low)
    (gcd_one_is_coprime p q (lowest_terms_gcd a b p q some low)) cross in
    ratio-signed_numerator false (a * m) (b * m) p q (mul-pos some some_m) wide
    ∙ sym (ratio-signed_numerator false a b p q some low)
  where
    turned : (p b m : ℕ) → p * (b * m) ≡ p * b * m
    turned p b m = omega arith

    back : (a m q : ℕ) → a * q * m ≡ a * m * q
    back a m q = omega arith

-- zeros at the end may be part of the coefficient or of the power of ten
numeral_zeros-out : (c z : ℕ) (s : ℤ) → whole_times_ten_power c (s +ℤ pos z) ≡ whole_times_ten_power (c * 10 ^ z) s
numeral_zeros-out c z (pos k) = ap (whole_times_ten_power c) (sum k z)
    ∙ ap (λ n. ratio (pos n) (pos 1)) (ap (λ p. c * p) (pow-add 10 z k) ∙ spread c (10 ^ z) (10 ^ k))
  where
    sum : (k z : ℕ) → pos k +ℤ pos z ≡ pos (z + k)
    sum k z = omega (arith, ints)

    spread : (c p q : ℕ) → c * (p * q) ≡ c * p * q
    spread c p q = omega arith
numeral_zeros-out c z (negsuc k) = elim (cases_lt k z) [
  | inl h ↦ above (z - suc k) (omega arith)
  | inr h ↦ below (k - z) (omega arith)
]
  where
    spread : (c p q : ℕ) → c * (p * q) ≡ c * p * q
    spread c p q = omega arith

    above : (j : ℕ) → z ≡ j + suc k → whole_times_ten_power c (negsuc k +ℤ pos z) ≡ whole_times_ten_power (c * 10 ^ z)
        (negsuc k)
    above j is =
        ap (whole_times_ten_power c) (up j is)
        ∙ sym (ratio-mul (c * 10 ^ j) 1 (10 ^ suc k) (lit< tt) (denominator_pow_some 10 (suc k) (lit< tt)))
        ∙ ap (λ n. ratio (pos n) (pos (1 * 10 ^ suc k)))
        (sym (spread c (10 ^ j) (10 ^ suc k))
        ∙ ap (λ p. c * p) (sym (pow-add 10 j (suc k)) ∙ ap (λ n. 10 ^ n) (sym is)))
        ∙ ap (λ n. ratio (pos (c * 10 ^ z)) (pos n)) (one (10 ^ suc k))
      where
        up : (j : ℕ) → z ≡ j + suc k → negsuc k +ℤ pos z ≡ pos j
        up j is = omega (arith, ints)

        one : (n : ℕ) → 1 * n ≡ n
        one n = omega arith

    below : (j : ℕ) → k ≡ j + z → whole_times_ten_power c (negsuc k +ℤ pos z) ≡ whole_times_ten_power (c * 10 ^ z)
        (negsuc k)
    below j is =
        ap (whole_times_ten_power c) (down j is)
        ∙ sym (ratio-mul c (10 ^ suc j) (10 ^ z) (denominator_pow_some 10 (suc j) (lit< tt))
        (denominator_pow_some 10 z (lit< tt)))
        ∙ ap (λ n. ratio (pos (c * 10 ^ z)) (pos n)) (sym (pow-add 10 (suc j) z) ∙ ap (λ n. 10 ^ n) (more j is))
      where
        down : (j : ℕ) → k ≡ j + z → negsuc k +ℤ pos z ≡ negsuc j
        down j is = omega (arith, ints)

        more : (j : ℕ) → k ≡ j + z → suc j + z ≡ suc k
        more j is = omega arith

-- the value of a mantissa times a power of ten
numeral_decimal_value : (bytes : List ℕ) (power : ℤ)
    → fraction_of_decimal (decimal_of_numeral bytes power) ≡ whole_times_ten_power
    (value_of_numeral_digits (numeral_digits bytes))
    (power -ℤ pos (numeral_decimal_places bytes))
numeral_decimal_value bytes power = by_coefficient (numeral_coefficient bytes)
    (numeral_number-without (numeral_digits bytes))
  where
    by_coefficient : (c : ℕ) → value_of_numeral_digits (numeral_digits bytes) ≡ c * 10 ^ numeral_end_zeros bytes
        → fraction_of_decimal (if c == 0 then record { coefficient = 0; scale = pos 0 }
        else record {
          coefficient = c;
          scale = power -ℤ pos (numeral_decimal_places bytes) +ℤ pos
              (numeral_end_zeros bytes);
        })
        ≡ whole_times_ten_power (value_of_numeral_digits (numeral_digits bytes))
        (power -ℤ pos (numeral_decimal_places bytes))
    by_coefficient zero is = zero_times_ten_power (pos 0)
        ∙ sym (ap (λ n. whole_times_ten_power n (power -ℤ pos (numeral_decimal_places bytes)))
        (is ∙ zero-mul (10 ^ numeral_end_zeros bytes))
        ∙ zero_times_ten_power (power -ℤ pos (numeral_decimal_places bytes)))
    by_coefficient (suc c) is =
        rw (other c) (numeral_zeros-out (suc c) (numeral_end_zeros bytes) (power -ℤ pos (numeral_decimal_places bytes))
        ∙ sym (ap (λ n. whole_times_ten_power n (power -ℤ pos (numeral_decimal_places bytes))) is))
      where
        other : (c : ℕ) → (suc c == 0) ≡ false
        other c = grind (arith, nat_tests)

-- the law of the values of numerals
pub numeral_law : NumeralLaw
numeral_law bytes is short = (
  decimal_of_numeral (numeral_mantissa bytes) (numeral_exponent (numeral_exponent_part bytes)),
  rw (is, short) refl,
  numeral_decimal_value (numeral_mantissa bytes) (numeral_exponent (numeral_exponent_part bytes)),
)
