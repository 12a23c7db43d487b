-- The layout of a decimal, determined by the power of ten of its first digit.
use Rattle.std.proofs.Common.{◌≡◌, ◌<◌, ◌≤◌, ◌+◌, ◌-◌, ◌^◌, ℕ, ℤ, pos, negsuc, List, true, false, length, unsigned_abs}
use Rattle.std.proofs.Common.{arith, lit<, refl, sym, ap, subst, inl, inr}
use Rattle.std.specs.Int.Signed.{lt_z}
use Rattle.std.specs.Fmt.{decimal}
use Rattle.std.proofs.lemmas.Bool.{cases_lt, le-ltb, lt-ltb}
use Rattle.std.proofs.lemmas.Fmt.{decimal_is_IsNumeral_wide}
use Rattle.std.proofs.lemmas.Int.{ints}
use Rattle.std.proofs.lemmas.Int.Digits.{digits_value-lt}
use Rattle.digits_print.specs.Layout.{plain_print_layout, print_layout, print_layout_below_one, scientific_print_layout}
use Rattle.digits_print.specs.Nearest.{HasDigits}
use Rattle.digits_print.proofs.Scales.{digit_power_up}

-- if the power is below -4, the layout is scientific
pub print_layout_tiny : (n : ℕ) (ds : List ℕ) (power : ℤ) → lt_z power (negsuc 3) ≡ true
    → print_layout n ds power ≡ scientific_print_layout ds power
print_layout_tiny n ds (pos k) low = absurd (cc)
print_layout_tiny n ds (negsuc k) low = rw (le-ltb k 4 (high k low)) refl
  where
    high : (k : ℕ) → lt_z (negsuc k) (negsuc 3) ≡ true → 4 ≤ k
    high k h = grind (arith, ints)

-- if the power is below 0 but not below -4, the layout has zeros after the point
pub print_layout_small : (n : ℕ) (ds : List ℕ) (power : ℤ) (size : ℕ) → size ≡ unsigned_abs power
    → lt_z power (negsuc 3) ≡ false
    → lt_z power (pos 0) ≡ true → print_layout n ds power ≡ print_layout_below_one ds (size - 1)
print_layout_small n ds (pos k) size is high low = absurd (no k low)
  where
    no : (k : ℕ) → lt_z (pos k) (pos 0) ≡ true → ⊥
    no k h = grind (arith, ints)
print_layout_small n ds (negsuc k) size is high low = let zeros : k ≡ size - 1 =
    omega arith in rw (lt-ltb k 4 (small k high)) (ap (print_layout_below_one ds) zeros)
  where
    small : (k : ℕ) → lt_z (negsuc k) (negsuc 3) ≡ false → k < 4
    small k h = grind (arith, ints)

-- if the power is at least 0 and below the number of digits, the layout is plain
pub print_layout_plain : (n : ℕ) (ds : List ℕ) (power : ℤ) (size : ℕ) → size ≡ unsigned_abs power
    → lt_z power (pos 0) ≡ false
    → size < n
    → print_layout n ds power ≡ plain_print_layout ds (size + 1)
print_layout_plain n ds (pos k) size is low high = rw (lt-ltb k n (omega arith))
    (ap (λ v. plain_print_layout ds (v + 1)) (sym is))
print_layout_plain n ds (negsuc k) size is low high = absurd (cc)

-- if the power is at least the number of digits, the layout is scientific
pub print_layout_large : (n : ℕ) (ds : List ℕ) (power : ℤ) (size : ℕ) → size ≡ unsigned_abs power
    → lt_z power (pos 0) ≡ false
    → n ≤ size
    → print_layout n ds power ≡ scientific_print_layout ds power
print_layout_large n ds (pos k) size is low high = rw (le-ltb k n (omega arith)) refl
print_layout_large n ds (negsuc k) size is low high = absurd (cc)

-- a number with n digits is written with at least n digits
pub enough_digits : (n m : ℕ) → 0 < n → n ≤ 36 → HasDigits n m → n ≤ length (decimal m)
enough_digits n m some most digits = elim (cases_lt (length (decimal m)) n) [
  | inl h ↦ absurd (fewer h)
  | inr h ↦ h
]
  where
    wide : m < 10 ^ 64
    wide = let high = digit_power_up n 36 most in let big : 10 ^ 36 < 10 ^ 64 = lit< tt in
        omega (arith, digits.upper_bound)

    fewer : length (decimal m) < n → ⊥
    fewer h =
        let read = decimal_is_IsNumeral_wide m wide in
        let low : m < 10 ^ length (decimal m) =
        subst (λ v. v < 10 ^ length (decimal m)) read.1 (digits_value-lt 10 (decimal m) read.0.1) in
        let high = digit_power_up (length (decimal m)) (n - 1) (omega arith) in
        omega (arith, digits.lower_bound)
