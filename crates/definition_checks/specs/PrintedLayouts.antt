-- Printed numbers at the limits of plain and scientific notation.
use Rattle.std.specs.Prelude.{◌≡◌, ◌^◌, ℕ, ℤ, pos, negsuc, List, codes}
use Rattle.digits_print.specs.Layout.{decimal_text}
use Rattle.digits_print.specs.Styles.{printed_number_text}
use Rattle.digits_print.specs.declared.style.Style.TheVariants.{Digits}

-- a number, by its numerator and denominator, with at most eight digits, and with at most two
abbrev pub eight_digits_of : ℤ → ℕ → List ℕ
eight_digits_of n d = printed_number_text (Digits 8) (record { num = n; den = d })

abbrev pub two_digits_of : ℤ → ℕ → List ℕ
two_digits_of n d = printed_number_text (Digits 2) (record { num = n; den = d })

-- 12 times a power of ten, as two digits
abbrev pub twelve_scaled : ℤ → List ℕ
twelve_scaled power = decimal_text 2 (record { coefficient = 12; scale = power })

pub record PrintedLayoutExamples : Type 0 where
  -- plain down to 0.0001
  pub ten_thousandth : eight_digits_of (pos 1) (10 ^ 4) ≡ codes "0.0001"
  pub hundred_thousandth : eight_digits_of (pos 1) (10 ^ 5) ≡ codes "1e-05"
  pub negative_below : eight_digits_of (negsuc 0) (10 ^ 5) ≡ codes "-1e-05"
  pub below_ten_thousandth : eight_digits_of (pos 99999999) (10 ^ 12) ≡ codes "9.9999999e-05"
  pub rounded_up_to_plain : eight_digits_of (pos 999999999) (10 ^ 13) ≡ codes "0.0001"
  -- plain up to as many digits as are printed; 99.5 is rounded to the even neighbour, which has one more
  pub two_nines : two_digits_of (pos 99) 1 ≡ codes "99"
  pub one_hundred : two_digits_of (pos 100) 1 ≡ codes "1e+02"
  pub rounded_up_to_scientific : two_digits_of (pos 199) 2 ≡ codes "1e+02"
  pub digits_after_the_first : two_digits_of (pos 1234) 1 ≡ codes "1.2e+03"
  pub negative_above : two_digits_of (negsuc 1233) 1 ≡ codes "-1.2e+03"
  -- a power of ten has a sign and at least two digits
  pub power_minus_10 : twelve_scaled (negsuc 10) ≡ codes "1.2e-10"
  pub power_minus_9 : twelve_scaled (negsuc 9) ≡ codes "1.2e-09"
  pub power_9 : twelve_scaled (pos 8) ≡ codes "1.2e+09"
  pub power_10 : twelve_scaled (pos 9) ≡ codes "1.2e+10"
  pub power_38 : twelve_scaled (pos 37) ≡ codes "1.2e+38"
