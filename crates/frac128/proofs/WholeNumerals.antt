-- Digits alone are a numeral.
use Rattle.std.proofs.Common.{◌≡◌, ◌-◌, ◌*◌, ◌^◌, ◌<◌, ◌≤◌, ◌+ℤ◌, ◌-ℤ◌, ℕ, suc, zero, pos, Bool, true, false, List, []}
use Rattle.std.proofs.Common.{◌∷◌, length, drop, arith, refl, sym, ap, ◌∙◌, lit<}
use Rattle.std.specs.Prelude.{if◌then◌else◌, ◌==◌, ◌&&◌, ◌||◌, Ok}
use Rattle.std.specs.List.{list_all, list_any}
use Rattle.std.proofs.lemmas.Bool.Decides.{nat_tests}
use Rattle.std.proofs.lemmas.Int.{ints}
use Rattle.std.proofs.Math.Nat.{le-mul_of_pos_right, zero-mul}
use Rattle.std.proofs.lemmas.Bool.{and_parts}
use Rattle.frac128.specs.Decimals.{DigitNumeralLaw, NumeralDecimal, numeral_coefficient, numeral_decimal_places}
use Rattle.frac128.specs.Decimals.{numeral_digits, value_of_numeral_digits, numeral_end_zeros, fraction_of_decimal}
use Rattle.frac128.specs.Fraction.{largest_fraction_part, whole_fraction}
use Rattle.frac128.specs.Numerals.{is_numeral, is_numeral_digit, is_numeral_exponent_mark, is_numeral_exponent_part}
use Rattle.frac128.specs.Numerals.{is_numeral_mantissa, prefix_until, suffix_from, is_numeral_point}
use Rattle.frac128.proofs.DigitRuns.{numeral_number-without, small_numeral_coefficient_is_some}
use Rattle.frac128.proofs.Powers.{denominator_pow_some}
use Rattle.frac128.proofs.Readings.{IsSplit, numeral_reading_short}
use Rattle.frac128.proofs.StageRuns.{numeral_digit_is_no_mark, numeral_digit_is_no_point}
use Rattle.frac128.proofs.TenPowers.{whole_ratio, zero_times_ten_power}

-- all bytes are digits
abbrev pub all : List ℕ → Type 0
all bs = list_all is_numeral_digit bs ≡ true

-- if no digit passes a test, the front of digits before the first byte that passes is all of them
pub numeral_prefix_of_digits : (test : ℕ → Bool) (bs : List ℕ) → ((b : ℕ) → is_numeral_digit b ≡ true → test b ≡ false)
    → all bs
    → prefix_until test bs ≡ bs
numeral_prefix_of_digits test [] none h = refl
numeral_prefix_of_digits test (b ∷ bs) none h =
    let parts = and_parts (is_numeral_digit b) (list_all is_numeral_digit bs) h in
    rw (none b parts.0) (ap (λ xs. b ∷ xs) (numeral_prefix_of_digits test bs none parts.1))

-- if no digit passes a test, the rest of digits from the first byte that passes on is empty
pub numeral_suffix_of_digits : (test : ℕ → Bool) (bs : List ℕ) → ((b : ℕ) → is_numeral_digit b ≡ true → test b ≡ false)
    → all bs
    → suffix_from test bs ≡ []
numeral_suffix_of_digits test [] none h = refl
numeral_suffix_of_digits test (b ∷ bs) none h =
    let parts = and_parts (is_numeral_digit b) (list_all is_numeral_digit bs) h in
    rw (none b parts.0) (numeral_suffix_of_digits test bs none parts.1)

-- digits alone are a numeral
pub digits_numeral : (bs : List ℕ) → 0 < length bs → all bs → is_numeral bs ≡ true
digits_numeral [] some h = absurd (omega arith)
digits_numeral (b ∷ bs) some h =
    let ds = b ∷ bs in
    let parts = and_parts (is_numeral_digit b) (list_all is_numeral_digit bs) h in
    ap (λ xs. is_numeral_mantissa xs && is_numeral_exponent_part (suffix_from is_numeral_exponent_mark ds))
    (numeral_prefix_of_digits is_numeral_exponent_mark ds numeral_digit_is_no_mark h)
    ∙ ap (λ xs. is_numeral_mantissa ds && is_numeral_exponent_part xs)
    (numeral_suffix_of_digits is_numeral_exponent_mark ds numeral_digit_is_no_mark h)
    ∙ ap (λ xs. (list_any is_numeral_digit ds &&
    (list_all is_numeral_digit xs && list_all is_numeral_digit (drop 1 (suffix_from is_numeral_point ds))))
    && true) (numeral_prefix_of_digits is_numeral_point ds numeral_digit_is_no_point h)
    ∙ ap (λ xs. (list_any is_numeral_digit ds &&
    (list_all is_numeral_digit ds && list_all is_numeral_digit (drop 1 xs))) && true)
    (numeral_suffix_of_digits is_numeral_point ds numeral_digit_is_no_point h)
    ∙ ap (λ t. (list_any is_numeral_digit ds && (t && true)) && true) h
    ∙ ap (λ t. ((t || list_any is_numeral_digit bs) && true) && true) parts.0

-- the value of a coefficient with the zeros at its end
numeral_value_with_zeros : (c z n : ℕ) → n ≡ c * 10 ^ z → n ≤ largest_fraction_part
    → (x : NumeralDecimal) ×
    ((if c == 0 then record { coefficient = 0; scale = pos 0 } else record { coefficient = c; scale = pos z }) ≡ x)
    × (fraction_of_decimal x ≡ Ok (whole_fraction (pos n)))
numeral_value_with_zeros zero z n e fits = (
  record { coefficient = 0; scale = pos 0 },
  refl,
  zero_times_ten_power (pos 0)
      ∙ ap (λ m. Ok (whole_fraction (pos m))) (sym (e ∙ zero-mul (10 ^ z))),
)
numeral_value_with_zeros (suc c) z n e fits =
    (record { coefficient = suc c; scale = pos z }, rw (other c) refl, rw (← e) (whole_ratio n fits))
  where
    other : (c : ℕ) → (suc c == 0) ≡ false
    other c = grind (arith, nat_tests)

-- the law of the value of digits alone
pub digit_numeral_law : DigitNumeralLaw
digit_numeral_law bytes some h fits =
    let ds = numeral_digits bytes in
    let c = numeral_coefficient bytes in
    let z = numeral_end_zeros bytes in
    let n_is : value_of_numeral_digits ds ≡ c * 10 ^ z = numeral_number-without ds in
    let grows : c ≤ c * 10 ^ z = le-mul_of_pos_right c (denominator_pow_some 10 z (lit< tt)) in
    let low : c ≤ largest_fraction_part = under c (c * 10 ^ z) (value_of_numeral_digits ds) grows n_is fits in
    let split : IsSplit bytes bytes [] = record {
      numeral = digits_numeral bytes some h;
      m_is = sym (numeral_prefix_of_digits is_numeral_exponent_mark bytes numeral_digit_is_no_mark h);
      t_is = sym (numeral_suffix_of_digits is_numeral_exponent_mark bytes numeral_digit_is_no_mark h);
    } in
    let no_places : numeral_decimal_places bytes ≡ 0 =
    ap (λ xs. length xs - 1) (numeral_suffix_of_digits is_numeral_point bytes numeral_digit_is_no_point h) in
    let scale : pos 0 -ℤ pos (numeral_decimal_places bytes) +ℤ pos z ≡ pos z =
    ap (λ k. pos 0 -ℤ pos k +ℤ pos z) no_places
    ∙ omega (arith, ints) in
    let value = numeral_value_with_zeros c z (value_of_numeral_digits ds) n_is fits in
    let x : NumeralDecimal = value.0 in (
      x,
      numeral_reading_short bytes bytes [] c z split (sym (small_numeral_coefficient_is_some c (c, z) low))
          (omega arith)
          ∙ ap (λ s. Ok (if c == 0 then record { coefficient = 0; scale = pos 0 }
          else record { coefficient = c; scale = s })) scale
          ∙ ap Ok value.1,
      value.2,
    )
  where
    under : (c m n : ℕ) → c ≤ m → n ≡ m → n ≤ largest_fraction_part → c ≤ largest_fraction_part
    under c m n h e k = omega arith
