-- The exact text of a fraction reads as that fraction.
use Rattle.std.proofs.Common.{◌≡◌, ◌<◌, ◌≤◌, ◌^◌, ◌++◌, ℕ, ℤ, pos, negsuc, suc, zero, List, Bool, true, false}
use Rattle.std.proofs.Common.{unsigned_abs, arith, refl, sym, ap, subst, ◌∙◌, lit<, inl, inr}
use Rattle.std.specs.Prelude.{◌⊎◌, ◌==◌, ◌&&◌, Ok, nat_le, codes}
use Rattle.std.specs.Fmt.{decimal, signed_decimal}
use Rattle.std.specs.Str.Parse.{IsNumeral, digits_value}
use Rattle.std.proofs.lemmas.Bool.Decides.{nat_tests}
use Rattle.std.proofs.lemmas.Fmt.{decimal_is_IsNumeral_wide}
use Rattle.frac128.specs.Fraction.{Fraction, IsFrac, largest_fraction_part}
use Rattle.frac128.specs.Sign.{signed_numerator}
use Rattle.frac128.specs.Steps.{ReducedFractionLaw, fraction_or_overflow, ratio}
use Rattle.digits_print.specs.Back.{DigitsReadBackLaw, IsReadAsDigits}
use Rattle.digits_print.specs.Exact.{ExactPrintLaw, PrintReadsAsQuotient, PrintReadsAsWhole, exact_print_text}
use Rattle.digits_print.specs.Exact.{printed_sign_text}

-- a fraction of the program fits
printed_fraction_fits : (x : Fraction) → IsFrac x → fraction_or_overflow x ≡ Ok x
printed_fraction_fits x kept = rw (tests (unsigned_abs x.num) x.den kept.num_fits kept.den_fits) refl
  where
    tests : (m n : ℕ) → m ≤ largest_fraction_part → n ≤ largest_fraction_part
        → (nat_le m largest_fraction_part && nat_le n largest_fraction_part) ≡ true
    tests m n h k = grind (arith, nat_tests)

-- the quotient of a fraction's numerator and denominator is that fraction
printed_ratio_is_fraction : ReducedFractionLaw → (n : ℤ) (d : ℕ) → IsFrac (record { num = n; den = d })
    → ratio n (pos d) ≡ Ok (record { num = n; den = d })
printed_ratio_is_fraction law n zero kept = absurd (omega (arith, kept.lowest_terms.den_positive))
printed_ratio_is_fraction law n (suc d) kept =
    let x : Fraction = record { num = n; den = suc d } in
    let same : x ≡ _ = (law n (suc d) kept.lowest_terms.den_positive).2 x kept.lowest_terms refl in
    ap fraction_or_overflow (sym same) ∙ printed_fraction_fits x kept

-- a number is an optional minus and a numeral
record IsSpelled (z : ℤ) : Type 0 where
  negative : Bool
  digits : List ℕ
  numeral : IsNumeral 10 digits
  read : IsReadAsDigits digits (digits_value 10 digits)
  text : signed_decimal z ≡ printed_sign_text negative ++ digits
  value : signed_numerator negative (digits_value 10 digits) ≡ z

-- a number that fits has at most 64 digits
printed_number_digits_bound : (n : ℕ) → n ≤ largest_fraction_part → n < 10 ^ 64
printed_number_digits_bound n h = let big : 2 ^ 127 < 10 ^ 64 = lit< tt in omega arith

-- the decimal digits of a number read as that number
decimal_digits_read_back : DigitsReadBackLaw → (n : ℕ) → n ≤ largest_fraction_part
    → IsReadAsDigits (decimal n) (digits_value 10 (decimal n))
decimal_digits_read_back back n h = subst (IsReadAsDigits (decimal n))
    (sym (decimal_is_IsNumeral_wide n (printed_number_digits_bound n h)).1) (back n h)

-- a whole number that fits is spelled by its sign and its digits
printed_whole_is_spelled : DigitsReadBackLaw → (z : ℤ) → unsigned_abs z ≤ largest_fraction_part → IsSpelled z
printed_whole_is_spelled back (pos n) h =
    let is = decimal_is_IsNumeral_wide n (printed_number_digits_bound n h) in
    record {
      negative = false;
      digits = decimal n;
      numeral = is.0;
      read = decimal_digits_read_back back n h;
      text = refl;
      value =
          ap pos is.1;
    }
printed_whole_is_spelled back (negsuc n) h =
    let is = decimal_is_IsNumeral_wide (suc n) (printed_number_digits_bound (suc n) h) in
    record {
      negative = true;
      digits = decimal (suc n);
      numeral = is.0;
      read = decimal_digits_read_back back (suc n) h;
      text = refl;
      value = ap (signed_numerator true) is.1;
    }

-- the text of a whole number reads as that number
print_reads_as_whole : ReducedFractionLaw → DigitsReadBackLaw → (n : ℤ) → IsFrac (record { num = n; den = 1 })
    → PrintReadsAsWhole (signed_decimal n) (record { num = n; den = 1 })
print_reads_as_whole law back n kept =
    let top = printed_whole_is_spelled back n kept.num_fits in
    record {
      has_minus = top.negative;
      numerator_digits = top.digits;
      top_digits = top.numeral;
      top_read = top.read;
      spelled_whole = top.text;
      value = ap (λ z. ratio z (pos 1)) top.value ∙ printed_ratio_is_fraction law n 1 kept;
    }

-- the text of a fraction reads as the quotient of its parts
print_reads_as_quotient : ReducedFractionLaw → DigitsReadBackLaw → (n : ℤ) (d : ℕ)
    → IsFrac (record { num = n; den = d })
    → PrintReadsAsQuotient (signed_decimal n ++ codes "|" ++ decimal d) (record { num = n; den = d })
print_reads_as_quotient law back n d kept =
    let top = printed_whole_is_spelled back n kept.num_fits in
    let bottom = decimal_is_IsNumeral_wide d (printed_number_digits_bound d kept.den_fits) in
    record {
      has_minus = top.negative;
      numerator_digits = top.digits;
      bottom = decimal d;
      top_digits = top.numeral;
      top_read = top.read;
      bottom_digits = bottom.0;
      bottom_read = decimal_digits_read_back back d kept.den_fits;
      spelled_quotient = ap (λ t. t ++ codes "|" ++ decimal d) top.text;
      value = ap (λ z. ratio z (pos (digits_value 10 (decimal d)))) top.value ∙ ap (λ m. ratio n (pos m)) bottom.1
          ∙ printed_ratio_is_fraction law n d kept;
    }

-- an exact text reads in one of these two ways
exact_print_reads : ReducedFractionLaw → DigitsReadBackLaw → (n : ℤ) (d : ℕ) → IsFrac (record { num = n; den = d })
    → PrintReadsAsWhole (exact_print_text (record { num = n; den = d })) (record { num = n; den = d })
    ⊎ PrintReadsAsQuotient (exact_print_text (record { num = n; den = d })) (record { num = n; den = d })
exact_print_reads law back n zero kept = inr (print_reads_as_quotient law back n zero kept)
exact_print_reads law back n (suc zero) kept = inl (print_reads_as_whole law back n kept)
exact_print_reads law back n (suc (suc d)) kept =
    inr (rw (other d) (print_reads_as_quotient law back n (suc (suc d)) kept))
  where
    other : (d : ℕ) → (suc (suc d) == 1) ≡ false
    other d = grind (arith, nat_tests)

-- the exact text of each fraction of the program reads as that fraction
pub exact_print_law : ReducedFractionLaw → DigitsReadBackLaw → ExactPrintLaw
exact_print_law law back x kept = exact_print_reads law back x.num x.den kept
