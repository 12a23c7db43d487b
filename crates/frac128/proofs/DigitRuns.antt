-- Digits that are read one after another.
use Rattle.std.proofs.Common.{add-one, zero-add, ◌≡◌, ◌+◌, ◌-◌, ◌*◌, ◌^◌, ◌<◌, ◌≤◌, ℕ, suc, zero, Bool, true, false}
use Rattle.std.proofs.Common.{List, [], ◌∷◌, length, drop, get_or, Some, None, arith, refl, sym, ap, subst, ◌∙◌, lit<}
use Rattle.std.specs.Prelude.{fold, if◌then◌else◌, nat_le}
use Rattle.std.specs.List.{list_all}
use Rattle.std.proofs.lemmas.Bool.Decides.{nat_tests}
use Rattle.std.proofs.lemmas.List.{at_drop_all, at_drop_more}
use Rattle.std.proofs.Math.Nat.{le-mul_of_pos_right, zero-mul, mul-one, mul_assoc, pow-suc}
use Rattle.std.proofs.lemmas.Bool.{le-leb, lt-leb}
use Rattle.frac128.specs.Decimals.{is_zero_numeral_digit, most_numeral_exponent, numeral_coefficient, numeral_digits}
use Rattle.frac128.specs.Decimals.{numeral_end_zeros, numeral_exponent_size, value_of_numeral_digits}
use Rattle.frac128.specs.Decimals.{numeral_digits_without_zeros, short_numeral_coefficient}
use Rattle.frac128.specs.Fraction.{largest_fraction_part}
use Rattle.frac128.specs.Numerals.{is_numeral_digit}
use Rattle.frac128.proofs.Powers.{denominator_pow_some}

-- a number extended by one digit
abbrev extend : ℕ → ℕ → ℕ
extend n d = n * 10 + d

-- the number without its end zeros, and the number of these zeros, after more digits
abbrev pub collect : ℕ → ℕ → List ℕ → ℕ × ℕ
collect n z [] = (n, z)
collect n z (d ∷ ds) = if is_zero_numeral_digit d then collect n (z + 1) ds else collect (n * 10 ^ (z + 1) + d) 0 ds

-- all digits are 0
abbrev all_zero : List ℕ → Bool
all_zero ds = list_all is_zero_numeral_digit ds

-- if all digits are 0, none is left without the end zeros
numeral_without-all_zero : (ds : List ℕ) → all_zero ds ≡ true → numeral_digits_without_zeros ds ≡ []
numeral_without-all_zero [] h = refl
numeral_without-all_zero (d ∷ ds) h = rw h refl

-- a digit is left if it or a later digit is not 0
numeral_without-other : (d : ℕ) (ds : List ℕ) → all_zero (d ∷ ds) ≡ false
    → numeral_digits_without_zeros (d ∷ ds) ≡ d ∷ numeral_digits_without_zeros ds
numeral_without-other d ds h = rw h refl

-- digits that are all 0 add to the zeros
numeral_collect-zeros : (n z : ℕ) (ds : List ℕ) → all_zero ds ≡ true → collect n z ds ≡ (n, z + length ds)
numeral_collect-zeros n z [] h = ap (λ k. (n, k)) (omega arith)
numeral_collect-zeros n z (zero ∷ ds) h = numeral_collect-zeros n (z + 1) ds h ∙ ap (λ k. (n, k)) (omega arith)
numeral_collect-zeros n z (suc d ∷ ds) h = absurd (cc)

-- one more zero multiplies by ten
numeral_zero_multiplies_by_ten : (n z : ℕ) → n * 10 ^ (z + 1) ≡ n * 10 ^ z * 10
numeral_zero_multiplies_by_ten n z = ap (λ k. n * 10 ^ k) (add-one z) ∙ ap (λ m. n * m) (pow-suc 10 z)
    ∙ sym (mul_assoc n (10 ^ z) 10)

-- one more zero extends the number by the digit 0
numeral_zero_appends_digit : (n z : ℕ) → n * 10 ^ (z + 1) ≡ n * 10 ^ z * 10 + 0
numeral_zero_appends_digit n z = numeral_zero_multiplies_by_ten n z ∙ omega arith

-- no zeros leave the number as it is
numeral_without_zeros_stays : (n : ℕ) → n * 10 ^ 0 ≡ n
numeral_without_zeros_stays n = mul-one n

-- incrementing both numbers does not change their difference
whole_successor_difference : (a b : ℕ) → a - b ≡ suc a - suc b
whole_successor_difference a b = omega arith

-- a number is its successor less 1
whole_successor_less_one : (a : ℕ) → 0 + a ≡ suc a - 1
whole_successor_less_one a = omega arith

-- if some digit is not 0, the number gets the pending zeros and all digits but the end zeros
numeral_collect-others : (n z : ℕ) (ds : List ℕ) → all_zero ds ≡ false
    → collect n z ds ≡ (
      fold extend (n * 10 ^ z) (numeral_digits_without_zeros ds),
      length ds - length
          (numeral_digits_without_zeros ds),
    )
numeral_collect-others n z [] h = absurd (cc)
numeral_collect-others n z (zero ∷ ds) h =
    numeral_collect-others n (z + 1) ds h
    ∙ ap (λ m. (fold extend m (numeral_digits_without_zeros ds), length ds - length (numeral_digits_without_zeros ds)))
    (numeral_zero_appends_digit n z)
    ∙ ap (λ k. (fold extend (n * 10 ^ z * 10 + 0) (numeral_digits_without_zeros ds), k))
    (whole_successor_difference (length ds) (length (numeral_digits_without_zeros ds)))
    ∙ ap (λ w. (fold extend (n * 10 ^ z) w, suc (length ds) - length w)) (sym (numeral_without-other zero ds h))
numeral_collect-others n z (suc d ∷ ds) h =
    by_test (all_zero ds) refl (λ m k e. numeral_collect-others m k ds e)
    ∙ ap (λ w. (fold extend (n * 10 ^ z) w, suc (length ds) - length w)) (sym (numeral_without-other (suc d) ds h))
  where
    by_test : (b : Bool) → all_zero ds ≡ b
        → ((m k : ℕ) → all_zero ds ≡ false
        → collect m k ds ≡ (
          fold extend (m * 10 ^ k) (numeral_digits_without_zeros ds),
          length ds - length
              (numeral_digits_without_zeros ds),
        ))
        → collect (n * 10 ^ (z + 1) + suc d) 0 ds
        ≡ (
          fold extend (n * 10 ^ z * 10 + suc d) (numeral_digits_without_zeros ds),
          suc (length ds) - suc (length (numeral_digits_without_zeros ds)),
        )
    by_test true e others =
        rw (numeral_without-all_zero ds e)
        (numeral_collect-zeros (n * 10 ^ (z + 1) + suc d) 0 ds e ∙ ap (λ m. (m + suc d, 0 + length ds))
        (numeral_zero_multiplies_by_ten n z)
        ∙ ap (λ k. (n * 10 ^ z * 10 + suc d, k)) (whole_successor_less_one (length ds)))
    by_test false e others =
        others (n * 10 ^ (z + 1) + suc d) 0 e
        ∙ ap (λ m. (
          fold extend m (numeral_digits_without_zeros ds),
          length ds - length
              (numeral_digits_without_zeros ds),
        ))
        (numeral_without_zeros_stays (n * 10 ^ (z + 1) + suc d)
        ∙ ap (λ m. m + suc d) (numeral_zero_multiplies_by_ten n z))
        ∙ ap (λ k. (fold extend (n * 10 ^ z * 10 + suc d) (numeral_digits_without_zeros ds), k))
        (whole_successor_difference (length ds) (length (numeral_digits_without_zeros ds)))

-- the number and the end zeros of all digits
numeral_collect-all : (ds : List ℕ)
    → collect 0 0 ds ≡ (
      value_of_numeral_digits (numeral_digits_without_zeros ds),
      length ds - length
          (numeral_digits_without_zeros ds),
    )
numeral_collect-all ds = by_test (all_zero ds) refl
  where
    by_test : (b : Bool) → all_zero ds ≡ b
        → collect 0 0 ds ≡ (
          value_of_numeral_digits (numeral_digits_without_zeros ds),
          length ds - length
              (numeral_digits_without_zeros ds),
        )
    by_test true h = rw (numeral_without-all_zero ds h)
        (numeral_collect-zeros 0 0 ds h ∙ ap (λ k. (0, k)) (omega arith))
    by_test false h = numeral_collect-others 0 0 ds h

-- digits that are all 0 multiply the number by a power of ten
numeral_fold-zeros : (n : ℕ) (ds : List ℕ) → all_zero ds ≡ true → fold extend n ds ≡ n * 10 ^ length ds
numeral_fold-zeros n [] h = sym (numeral_without_zeros_stays n)
numeral_fold-zeros n (zero ∷ ds) h = numeral_fold-zeros (n * 10 + 0) ds h ∙ moved n (length ds)
  where
    turned : (n m : ℕ) → (n * 10 + 0) * m ≡ n * (m * 10)
    turned n m = omega arith

    moved : (n k : ℕ) → (n * 10 + 0) * 10 ^ k ≡ n * 10 ^ suc k
    moved n k = turned n (10 ^ k) ∙ ap (λ m. n * m) (sym (pow-suc 10 k))
numeral_fold-zeros n (suc d ∷ ds) h = absurd (cc)

-- if some digit is not 0, the end zeros multiply the number by a power of ten
numeral_fold-without : (n : ℕ) (ds : List ℕ) → all_zero ds ≡ false
    → fold extend n ds ≡ fold extend n (numeral_digits_without_zeros ds) * 10 ^
    (length ds - length (numeral_digits_without_zeros ds))
numeral_fold-without n [] h = absurd (cc)
numeral_fold-without n (d ∷ ds) h =
    by_test (all_zero ds) refl (λ m e. numeral_fold-without m ds e)
    ∙ ap (λ w. fold extend n w * 10 ^ (suc (length ds) - length w)) (sym (numeral_without-other d ds h))
  where
    by_test : (b : Bool) → all_zero ds ≡ b
        → ((m : ℕ) → all_zero ds ≡ false
        → fold extend m ds ≡ fold extend m (numeral_digits_without_zeros ds) * 10 ^
        (length ds - length (numeral_digits_without_zeros ds)))
        → fold extend (n * 10 + d) ds
        ≡ fold extend (n * 10 + d) (numeral_digits_without_zeros ds) * 10 ^
        (suc (length ds) - suc (length (numeral_digits_without_zeros ds)))
    by_test true e others =
        rw (numeral_without-all_zero ds e)
        (numeral_fold-zeros (n * 10 + d) ds e
        ∙ ap (λ k. (n * 10 + d) * 10 ^ k) (sym (zero-add (length ds)) ∙ whole_successor_less_one (length ds)))
    by_test false e others =
        others (n * 10 + d) e
        ∙ ap (λ k. fold extend (n * 10 + d) (numeral_digits_without_zeros ds) * 10 ^ k)
        (whole_successor_difference (length ds) (length (numeral_digits_without_zeros ds)))

-- a number is the number without its end zeros, times ten for each of them
pub numeral_number-without : (ds : List ℕ)
    → value_of_numeral_digits ds ≡ value_of_numeral_digits (numeral_digits_without_zeros ds) * 10 ^
    (length ds - length (numeral_digits_without_zeros ds))
numeral_number-without ds = by_test (all_zero ds) refl
  where
    by_test : (b : Bool) → all_zero ds ≡ b
        → value_of_numeral_digits ds ≡ value_of_numeral_digits (numeral_digits_without_zeros ds) * 10 ^
        (length ds - length (numeral_digits_without_zeros ds))
    by_test true e =
        rw (numeral_without-all_zero ds e)
        (numeral_fold-zeros 0 ds e ∙ zero-mul (10 ^ length ds) ∙ sym (zero-mul (10 ^ (length ds - 0))))
    by_test false e = numeral_fold-without 0 ds e

-- more digits do not make the number smaller
numeral_collect_grows : (n z : ℕ) (ds : List ℕ) → n ≤ (collect n z ds).0
numeral_collect_grows n z [] = omega arith
numeral_collect_grows n z (zero ∷ ds) = numeral_collect_grows n (z + 1) ds
numeral_collect_grows n z (suc d ∷ ds) =
    let times : n ≤ n * 10 ^ (z + 1) = le-mul_of_pos_right n (denominator_pow_some 10 (z + 1) (lit< tt)) in
    omega (arith, numeral_collect_grows (n * 10 ^ (z + 1) + suc d) 0 ds)

-- `n` and `z` are the number and the end zeros of the first `i` bytes
pub record IsCollected (bytes : List ℕ) (i n z : ℕ) : Type 0 where
  pub bound : z ≤ i
  pub fits : n ≤ largest_fraction_part
  pub rest : collect n z (numeral_digits (drop i bytes)) ≡ collect 0 0 (numeral_digits bytes)

-- reading a digit other than 0
numeral_digit_next : (n z b : ℕ) (bs : List ℕ) → (b ≡ 48 → ⊥) → is_numeral_digit b ≡ true
    → collect n z (numeral_digits (b ∷ bs)) ≡ collect (n * 10 ^ (z + 1) + (b - 48)) 0 (numeral_digits bs)
numeral_digit_next n z b bs other h = rw h (by_digit (b - 48) some)
  where
    some : 0 < b - 48
    some = let low : 48 ≤ b = grind (arith, nat_tests) in omega (arith, other)

    by_digit : (d : ℕ) → 0 < d
        → (if is_zero_numeral_digit d then collect n (z + 1) (numeral_digits bs)
        else collect (n * 10 ^ (z + 1) + d) 0 (numeral_digits bs)) ≡ collect (n * 10 ^ (z + 1) + d) 0
        (numeral_digits bs)
    by_digit zero h = absurd (omega arith)
    by_digit (suc d) h = refl

-- after such a digit, the rest of the bytes completes the number
numeral_digit_rest : (bytes : List ℕ) (i n z : ℕ) → IsCollected bytes i n z → i < length bytes
    → (get_or bytes i 0 ≡ 48 → ⊥)
    → is_numeral_digit (get_or bytes i 0) ≡ true
    → collect (n * 10 ^ (z + 1) + (get_or bytes i 0 - 48)) 0 (numeral_digits (drop (i + 1) bytes))
    ≡ collect 0 0 (numeral_digits bytes)
numeral_digit_rest bytes i n z is h other b =
    sym (numeral_digit_next n z (get_or bytes i 0) (drop (i + 1) bytes) other b)
    ∙ sym (at_drop_more (λ xs. collect n z (numeral_digits xs)) bytes i 0 h) ∙ is.rest

-- a coefficient that is too large gives `None`
wide_numeral_coefficient_is_none : (c : ℕ) (p : ℕ × ℕ) → largest_fraction_part < c
    → (if nat_le c largest_fraction_part then Some p else None) ≡ None
wide_numeral_coefficient_is_none c p h = rw (lt-leb c largest_fraction_part h) refl

-- a coefficient that is not too large is the result
pub small_numeral_coefficient_is_some : (c : ℕ) (p : ℕ × ℕ) → c ≤ largest_fraction_part
    → (if nat_le c largest_fraction_part then Some p else None) ≡ Some p
small_numeral_coefficient_is_some c p h = rw (le-leb c largest_fraction_part h) refl

-- if the number with one more digit is too large, so is the coefficient
pub collected_numeral_too_wide : (bytes : List ℕ) (i n z : ℕ) → IsCollected bytes i n z → i < length bytes
    → (get_or bytes i 0 ≡ 48 → ⊥)
    → is_numeral_digit (get_or bytes i 0) ≡ true
    → (n * 10 ^ (z + 1) + (get_or bytes i 0 - 48) ≤ largest_fraction_part → ⊥) → short_numeral_coefficient bytes ≡ None
collected_numeral_too_wide bytes i n z is h other b wide =
    let m = n * 10 ^ (z + 1) + (get_or bytes i 0 - 48) in
    let grown = numeral_collect_grows m 0 (numeral_digits (drop (i + 1) bytes)) in
    let whole : (collect m 0 (numeral_digits (drop (i + 1) bytes))).0 ≡ numeral_coefficient bytes =
    ap (λ x. x.0) (numeral_digit_rest bytes i n z is h other b ∙ numeral_collect-all (numeral_digits bytes)) in
    wide_numeral_coefficient_is_none (numeral_coefficient bytes) (numeral_coefficient bytes, numeral_end_zeros bytes)
    (high m (numeral_coefficient bytes) wide (subst (λ c. m ≤ c) whole grown))
  where
    high : (m c : ℕ) → (m ≤ largest_fraction_part → ⊥) → m ≤ c → largest_fraction_part < c
    high m c wide low = omega (arith, wide)

-- after all bytes, the number and the end zeros are the result
pub collected_numeral_complete : (bytes : List ℕ) (i n z : ℕ) → IsCollected bytes i n z → length bytes ≤ i
    → short_numeral_coefficient bytes ≡ Some (n, z)
collected_numeral_complete bytes i n z is h =
    let whole : (n, z) ≡ (numeral_coefficient bytes, numeral_end_zeros bytes) =
    sym (at_drop_all (λ xs. collect n z (numeral_digits xs)) bytes i h) ∙ is.rest
    ∙ numeral_collect-all (numeral_digits bytes) in
    small_numeral_coefficient_is_some (numeral_coefficient bytes) (numeral_coefficient bytes, numeral_end_zeros bytes)
    (subst (λ c. c ≤ largest_fraction_part) (ap (λ x. x.0) whole) is.fits) ∙ ap Some (sym whole)

-- more digits do not make the exponent smaller
numeral_exponent_grows : (n : ℕ) (ds : List ℕ) → n ≤ fold extend n ds
numeral_exponent_grows n [] = omega arith
numeral_exponent_grows n (d ∷ ds) = omega (arith, numeral_exponent_grows (n * 10 + d) ds)

-- `n` is the exponent of the first `i` bytes
pub record IsCounted (bytes : List ℕ) (i n : ℕ) : Type 0 where
  pub fits : n ≤ most_numeral_exponent
  pub rest : fold extend n (numeral_digits (drop i bytes)) ≡ numeral_exponent_size bytes

-- after one more digit, the rest of the bytes completes the exponent
numeral_exponent_rest : (bytes : List ℕ) (i n : ℕ) → IsCounted bytes i n → i < length bytes
    → is_numeral_digit (get_or bytes i 0) ≡ true
    → fold extend (n * 10 + (get_or bytes i 0 - 48)) (numeral_digits (drop (i + 1) bytes)) ≡ numeral_exponent_size bytes
numeral_exponent_rest bytes i n is h b = step (get_or bytes i 0) b
    ∙ sym (at_drop_more (λ xs. fold extend n (numeral_digits xs)) bytes i 0 h) ∙ is.rest
  where
    step : (b : ℕ) → is_numeral_digit b ≡ true
        → fold extend (n * 10 + (b - 48)) (numeral_digits (drop (i + 1) bytes))
        ≡ fold extend n (numeral_digits (b ∷ drop (i + 1) bytes))
    step b h = rw h refl

-- if the first digits of the exponent are too large, so is the exponent
pub numeral_exponent_too_wide : (bytes : List ℕ) (i n : ℕ) → IsCounted bytes i n → i < length bytes
    → is_numeral_digit (get_or bytes i 0) ≡ true
    → most_numeral_exponent < n * 10 + (get_or bytes i 0 - 48) → most_numeral_exponent < numeral_exponent_size bytes
numeral_exponent_too_wide bytes i n is h b wide =
    let grown = numeral_exponent_grows (n * 10 + (get_or bytes i 0 - 48)) (numeral_digits (drop (i + 1) bytes)) in
    above _ _ _ wide (subst (λ c. n * 10 + (get_or bytes i 0 - 48) ≤ c) (numeral_exponent_rest bytes i n is h b) grown)
  where
    above : (x y z : ℕ) → x < y → y ≤ z → x < z
    above x y z h k = omega arith
