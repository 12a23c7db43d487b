-- The digits of std are digits of numerals.
use Rattle.std.proofs.Common.{◌≡◌, ◌<◌, ◌≤◌, ◌+◌, ◌-◌, ◌*◌, ◌^◌, ℕ, pos, List, [], ◌∷◌, true, arith, refl, ap, ◌∙◌}
use Rattle.std.proofs.Common.{lit<}
use Rattle.std.specs.Prelude.{fold, Ok}
use Rattle.std.specs.Char.{digit_value}
use Rattle.std.specs.Fmt.{decimal}
use Rattle.std.specs.List.{list_all}
use Rattle.std.specs.Str.Parse.{AllDigits, digits_value_after}
use Rattle.std.proofs.lemmas.Bool.Decides.{nat_tests}
use Rattle.std.proofs.lemmas.Fmt.{decimal_is_IsNumeral_wide}
use Rattle.frac128.specs.Decimals.{DigitNumeralLaw, numeral_digits, value_of_numeral_digits}
use Rattle.frac128.specs.Fraction.{largest_fraction_part, whole_fraction}
use Rattle.frac128.specs.Numerals.{is_numeral_digit}
use Rattle.digits_print.specs.Back.{DigitsReadBackLaw}

-- a digit of std is a digit of numerals with the same value
digit_is_numeral_digit : (c : ℕ) → digit_value c < 10 → (is_numeral_digit c ≡ true) × (digit_value c ≡ c - 48)
digit_is_numeral_digit c h = (grind (arith, nat_tests), grind (arith, nat_tests))

-- all digits of std are digits of numerals
digits_are_numeral_digits : (ds : List ℕ) → AllDigits 10 ds → list_all is_numeral_digit ds ≡ true
digits_are_numeral_digits [] h = refl
digits_are_numeral_digits (c ∷ cs) h = rw ((digit_is_numeral_digit c h.0).0) (digits_are_numeral_digits cs h.1)

-- both kinds of digits denote the same number
number_of_both_digits : (n : ℕ) (ds : List ℕ) → AllDigits 10 ds
    → fold (λ n d. n * 10 + d) n (numeral_digits ds) ≡ digits_value_after 10 n ds
number_of_both_digits n [] h = refl
number_of_both_digits n (c ∷ cs) h =
    let d = digit_is_numeral_digit c h.0 in
    rw (d.0, d.1) (number_of_both_digits (n * 10 + (c - 48)) cs h.1)

-- a number that fits has at most 64 digits
at_most_64_digits : (n : ℕ) → n ≤ largest_fraction_part → n < 10 ^ 64
at_most_64_digits n h = let big : 2 ^ 127 < 10 ^ 64 = lit< tt in omega arith

-- the law that the digits of a number read as that number
pub digits_read_back_law : DigitNumeralLaw → DigitsReadBackLaw
digits_read_back_law law n fits =
    let is = decimal_is_IsNumeral_wide n (at_most_64_digits n fits) in
    let same : value_of_numeral_digits (numeral_digits (decimal n)) ≡ n = number_of_both_digits 0 (decimal n) is.0.1
    ∙ is.1 in
    let found = law (decimal n) is.0.0 (digits_are_numeral_digits (decimal n) is.0.1) (rw same fits) in
    record { numeral = found.0; read_is = found.1; value_is = found.2 ∙ ap (λ m. Ok (whole_fraction (pos m))) same }
