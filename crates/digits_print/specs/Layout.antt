-- The layout of digits in plain and in scientific notation.
use Rattle.std.specs.Prelude.{◌+◌, ◌-◌, ◌==◌, ◌+ℤ◌, ℕ, ℤ, pos, negsuc, suc, nat_lt, if◌then◌else◌}
use Rattle.std.specs.Prelude.{List, [], ◌∷◌, ◌++◌, take, drop, replicate, codes}
use Rattle.std.specs.Fmt.{decimal}
use Rattle.std.specs.List.{list_all}
use Rattle.frac128.specs.Decimals.{NumeralDecimal}

-- the digits up to the last one that is not `0`
abbrev pub digits_without_end_zeros : List ℕ → List ℕ
digits_without_end_zeros [] = []
digits_without_end_zeros (b ∷ bs) = if list_all (λ c. c == 48) (b ∷ bs) then [] else b ∷ digits_without_end_zeros bs

-- the digits after a point, or nothing if there are none
abbrev pub point_and_digits : List ℕ → List ℕ
point_and_digits [] = []
point_and_digits (b ∷ bs) = codes "." ++ (b ∷ bs)

-- a point and the digits after it, without trailing zeros
abbrev pub printed_fraction_digits : List ℕ → List ℕ
printed_fraction_digits ds = point_and_digits (digits_without_end_zeros ds)

-- a number with at least two digits
abbrev pub two_digits : ℕ → List ℕ
two_digits k = if nat_lt k 10 then codes "0" ++ decimal k else decimal k

-- an exponent with its mark and sign
abbrev pub printed_exponent_suffix : ℤ → List ℕ
printed_exponent_suffix (pos k) = codes "e+" ++ two_digits k
printed_exponent_suffix (negsuc k) = codes "e-" ++ two_digits (suc k)

-- the first digit, a point and the other digits, and the power of ten of the first digit
abbrev pub scientific_print_layout : List ℕ → ℤ → List ℕ
scientific_print_layout ds power = take 1 ds ++ printed_fraction_digits (drop 1 ds) ++ printed_exponent_suffix power

-- plain notation with k digits before the point
abbrev pub plain_print_layout : List ℕ → ℕ → List ℕ
plain_print_layout ds k = take k ds ++ printed_fraction_digits (drop k ds)

-- plain notation with k zeros between the point and the first digit
abbrev pub print_layout_below_one : List ℕ → ℕ → List ℕ
print_layout_below_one ds k = codes "0." ++ replicate k 48 ++ digits_without_end_zeros ds

-- n digits, the first of which has this power of ten, in plain notation if the power is from -4 to n - 1
abbrev pub print_layout : ℕ → List ℕ → ℤ → List ℕ
print_layout n ds (pos k) = if nat_lt k n then plain_print_layout ds (k + 1) else scientific_print_layout ds (pos k)
print_layout n ds (negsuc k) = if nat_lt k 4 then print_layout_below_one ds k else scientific_print_layout ds (negsuc k)

-- the text of a decimal with n digits
abbrev pub decimal_text : ℕ → NumeralDecimal → List ℕ
decimal_text n d = print_layout n (decimal d.coefficient) (d.scale +ℤ pos (n - 1))
