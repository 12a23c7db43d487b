-- Reading a numeral from its parts.
use Rattle.std.proofs.Common.{◌≡◌, ◌≤◌, ◌-◌, ◌+ℤ◌, ◌-ℤ◌, ℕ, ℤ, suc, pos, Bool, true, false, List, [], ◌∷◌, length, take}
use Rattle.std.proofs.Common.{drop, Some, None, arith, refl, sym, ap, ◌∙◌}
use Rattle.std.specs.Prelude.{if◌then◌else◌, ◌==◌, nat_le, Ok, Err}
use Rattle.std.proofs.lemmas.Bool.Decides.{nat_tests}
use Rattle.std.proofs.lemmas.Bool.{le-leb, lt-leb}
use Rattle.frac128.specs.declared.numeral.NumeralFault.TheVariants.{TooLong}
use Rattle.frac128.specs.Decimals.{numeral_coefficient, numeral_digits, numeral_end_zeros, numeral_exponent}
use Rattle.frac128.specs.Decimals.{numeral_exponent_part, numeral_exponent_size, most_numeral_exponent}
use Rattle.frac128.specs.Decimals.{numeral_decimal_places, numeral_mantissa, numeral_reading, short_numeral_coefficient}
use Rattle.frac128.specs.Fraction.{largest_fraction_part}
use Rattle.frac128.specs.Numerals.{is_numeral, is_numeral_digit, is_numeral_exponent_mark, prefix_until, suffix_from}

-- the front of a list before a member that passes a test is at most as long as the list
pub numeral_prefix-le : (p : ℕ → Bool) (xs : List ℕ) → length (prefix_until p xs) ≤ length xs
numeral_prefix-le p [] = omega arith
numeral_prefix-le p (x ∷ xs) = by_test (p x) (numeral_prefix-le p xs)
  where
    by_test : (b : Bool) → length (prefix_until p xs) ≤ length xs
        → length (if◌then◌else◌ {A = List ℕ} b [] (x ∷ prefix_until p xs)) ≤ suc (length xs)
    by_test true h = omega arith
    by_test false h = omega arith

-- there are at most as many digits as bytes
numeral_digits-le : (bytes : List ℕ) → length (numeral_digits bytes) ≤ length bytes
numeral_digits-le [] = omega arith
numeral_digits-le (b ∷ bs) = by_test (is_numeral_digit b) (numeral_digits-le bs)
  where
    by_test : (t : Bool) → length (numeral_digits bs) ≤ length bs
        → length (if◌then◌else◌ {A = List ℕ} t ((b - 48) ∷ numeral_digits bs) (numeral_digits bs)) ≤ suc (length bs)
    by_test true h = omega arith
    by_test false h = omega arith

-- taking as many members as the front has gives the front
numeral_take-prefix : (p : ℕ → Bool) (xs : List ℕ) → take (length (prefix_until p xs)) xs ≡ prefix_until p xs
numeral_take-prefix p [] = refl
numeral_take-prefix p (x ∷ xs) = by_test (p x) (numeral_take-prefix p xs)
  where
    by_test : (b : Bool) → take (length (prefix_until p xs)) xs ≡ prefix_until p xs
        → take (length (if◌then◌else◌ {A = List ℕ} b [] (x ∷ prefix_until p xs))) (x ∷ xs)
        ≡ (if◌then◌else◌ {A = List ℕ} b [] (x ∷ prefix_until p xs))
    by_test true h = refl
    by_test false h = ap (λ ys. x ∷ ys) h

-- dropping as many members as the front has gives the rest
numeral_drop-prefix : (p : ℕ → Bool) (xs : List ℕ) → drop (length (prefix_until p xs)) xs ≡ suffix_from p xs
numeral_drop-prefix p [] = refl
numeral_drop-prefix p (x ∷ xs) = by_test (p x) (numeral_drop-prefix p xs)
  where
    by_test : (b : Bool) → drop (length (prefix_until p xs)) xs ≡ suffix_from p xs
        → drop (length (if◌then◌else◌ {A = List ℕ} b [] (x ∷ prefix_until p xs))) (x ∷ xs)
        ≡ (if◌then◌else◌ {A = List ℕ} b (x ∷ xs) (suffix_from p xs))
    by_test true h = refl
    by_test false h = h

-- a numeral, its mantissa and the text of its exponent
pub record IsSplit (bytes m t : List ℕ) : Type 0 where
  pub numeral : is_numeral bytes ≡ true
  pub m_is : m ≡ numeral_mantissa bytes
  pub t_is : t ≡ numeral_exponent_part bytes

-- the parts, given the place of the mark
pub numeral_split_by_mark : (bytes m t : List ℕ) (n : ℕ) → n ≡ length (prefix_until is_numeral_exponent_mark bytes)
    → m ≡ take n bytes
    → t ≡ drop n bytes
    → is_numeral bytes ≡ true → IsSplit bytes m t
numeral_split_by_mark bytes m t n n_is m_is t_is h = record {
  numeral = h;
  m_is = m_is ∙ ap (λ k. take k bytes) n_is ∙ numeral_take-prefix is_numeral_exponent_mark bytes;
  t_is = t_is ∙ ap (λ k. drop k bytes) n_is ∙ numeral_drop-prefix is_numeral_exponent_mark bytes;
}

-- if the result is `None`, the test is false
numeral_coefficient_none : (b : Bool) (p : ℕ × ℕ) → None ≡ (if b then Some p else None) → b ≡ false
numeral_coefficient_none true p h = absurd (cc)
numeral_coefficient_none false p h = refl

-- if the result is `Some`, it has the given value and the test is true
numeral_coefficient_some : (b : Bool) (p q : ℕ × ℕ) → Some p ≡ (if b then Some q else None) → (b ≡ true) × (p ≡ q)
numeral_coefficient_some true p q h = (refl, cc)
numeral_coefficient_some false p q h = absurd (cc)

-- there are at most as many zeros at the end as bytes
pub numeral_zeros-le : (bytes : List ℕ) (c z : ℕ) → Some (c, z) ≡ short_numeral_coefficient bytes → z ≤ length bytes
numeral_zeros-le bytes c z some =
    let short = numeral_coefficient_some (nat_le (numeral_coefficient bytes) largest_fraction_part) (c, z)
    (numeral_coefficient bytes, numeral_end_zeros bytes) some in
    let z_is : z ≡ numeral_end_zeros bytes = ap (λ p. p.1) short.1 in
    omega (arith, numeral_digits-le bytes)

-- if the coefficient is too large, the result is `TooLong`
pub numeral_reading_too_wide : (bytes m t : List ℕ) → IsSplit bytes m t → None ≡ short_numeral_coefficient m
    → Err TooLong ≡ numeral_reading bytes
numeral_reading_too_wide bytes m t is none =
    let wide : nat_le (numeral_coefficient (numeral_mantissa bytes)) largest_fraction_part ≡ false =
    rw (← is.m_is) (numeral_coefficient_none (nat_le (numeral_coefficient m) largest_fraction_part)
    (numeral_coefficient m, numeral_end_zeros m) none) in
    rw (is.numeral, wide) refl

-- if the exponent is too large, the result is `TooLong`
pub numeral_reading_too_long : (bytes m t : List ℕ) (c z : ℕ) → IsSplit bytes m t
    → Some (c, z) ≡ short_numeral_coefficient m
    → (numeral_exponent_size t ≤ most_numeral_exponent → ⊥) → Err TooLong ≡ numeral_reading bytes
numeral_reading_too_long bytes m t c z is some wide =
    let short = numeral_coefficient_some (nat_le (numeral_coefficient m) largest_fraction_part) (c, z)
    (numeral_coefficient m, numeral_end_zeros m) some in
    let fits : nat_le (numeral_coefficient (numeral_mantissa bytes)) largest_fraction_part ≡ true =
    rw (← is.m_is) short.0 in
    let long : nat_le (numeral_exponent_size (numeral_exponent_part bytes)) most_numeral_exponent ≡ false =
    rw (← is.t_is) (lt-leb (numeral_exponent_size t) most_numeral_exponent (omega (arith, wide))) in
    rw (is.numeral, fits, long) refl

-- if neither is too large, the result is computed from the parts
pub numeral_reading_short : (bytes m t : List ℕ) (c z : ℕ) → IsSplit bytes m t
    → Some (c, z) ≡ short_numeral_coefficient m
    → numeral_exponent_size t ≤ most_numeral_exponent
    → numeral_reading bytes ≡ Ok (if c == 0 then record { coefficient = 0; scale = pos 0 }
    else record { coefficient = c; scale = numeral_exponent t -ℤ pos (numeral_decimal_places m) +ℤ pos z })
numeral_reading_short bytes m t c z is some low =
    let short = numeral_coefficient_some (nat_le (numeral_coefficient m) largest_fraction_part) (c, z)
    (numeral_coefficient m, numeral_end_zeros m) some in
    let fits : nat_le (numeral_coefficient (numeral_mantissa bytes)) largest_fraction_part ≡ true =
    rw (← is.m_is) short.0 in
    let near : nat_le (numeral_exponent_size (numeral_exponent_part bytes)) most_numeral_exponent ≡ true =
    rw (← is.t_is) (le-leb (numeral_exponent_size t) most_numeral_exponent low) in
    let c_is : c ≡ numeral_coefficient m = ap (λ p. p.0) short.1 in
    let z_is : z ≡ numeral_end_zeros m = ap (λ p. p.1) short.1 in
    rw (is.numeral, fits, near, c_is, z_is, is.m_is, is.t_is) refl

-- if the coefficient is 0, the result is 0
pub numeral_reading_zero : (bytes m t : List ℕ) (c z : ℕ) → IsSplit bytes m t
    → Some (c, z) ≡ short_numeral_coefficient m
    → numeral_exponent_size t ≤ most_numeral_exponent
    → c ≡ 0
    → Ok (record { coefficient = 0; scale = pos 0 }) ≡ numeral_reading bytes
numeral_reading_zero bytes m t c z is some low c_is =
    sym (numeral_reading_short bytes m t c z is some low ∙ rw c_is refl)

-- if the coefficient is above 0, the result has the scale of the parts
pub numeral_reading_some : (bytes m t : List ℕ) (c z k : ℕ) (power : ℤ) → IsSplit bytes m t
    → Some (c, z) ≡ short_numeral_coefficient m
    → numeral_exponent_size t ≤ most_numeral_exponent → (c ≡ 0 → ⊥)
    → power ≡ numeral_exponent t → k ≡ numeral_decimal_places m
    → Ok (record { coefficient = c; scale = power -ℤ pos k +ℤ pos z })
    ≡ numeral_reading bytes
numeral_reading_some bytes m t c z k power is some low other power_is k_is =
    let test : (c == 0) ≡ false = grind (arith, nat_tests) in
    sym (numeral_reading_short bytes m t c z is some low ∙ rw (test, power_is, k_is) refl)
