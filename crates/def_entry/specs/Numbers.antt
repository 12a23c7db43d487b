-- The numbers of tables and intervals: an optional sign, and a numeral or two numerals separated by `|`.
use Rattle.std.specs.Prelude.{◌==◌, ℕ, List, [], ◌∷◌, if◌then◌else◌, Option, Some, None, option_map, Result, Ok, Err}
use Rattle.std.specs.Result.{result_ok}
use Rattle.frac128.specs.declared.numeral.NumeralFault.{NumeralFault}
use Rattle.frac128.specs.Decimals.{NumeralDecimal, fraction_of_decimal, numeral_reading}
use Rattle.frac128.specs.Fraction.{Fraction, opposite_fraction}
use Rattle.frac128.specs.Steps.{fraction_quotient}
use Rattle.def_entry.specs.Cuts.{cut_at}
use Rattle.def_entry.specs.Marks.{entry_bar, entry_minus, entry_plus}
use Rattle.def_entry.specs.Steps.{◌>>=◌}

-- the value of a numeral that was read, if it has one
abbrev pub entry_number_read : Result NumeralDecimal NumeralFault → Option Fraction
entry_number_read (Ok numeral) = result_ok (fraction_of_decimal numeral)
entry_number_read (Err fault) = None

-- the value of a numeral
abbrev pub numeral_value : List ℕ → Option Fraction
numeral_value bytes = entry_number_read (numeral_reading bytes)

-- the value of two numerals separated by `|`
abbrev pub quotient_value : List ℕ → List ℕ → Option Fraction
quotient_value above below = do
  x ← numeral_value above
  y ← numeral_value below
  result_ok (fraction_quotient x y)

-- the value of a number, given its parts before and after `|`
abbrev pub parted_entry_number : Option (List ℕ × List ℕ) → List ℕ → Option Fraction
parted_entry_number None text = numeral_value text
parted_entry_number (Some parts) text = quotient_value parts.0 parts.1

-- the value of a number without a sign
abbrev pub unsigned_value : List ℕ → Option Fraction
unsigned_value text = parted_entry_number (cut_at entry_bar text) text

-- the value of a number
unfoldable pub entry_text_number : List ℕ → Option Fraction
entry_text_number [] = None
entry_text_number (b ∷ text) =
    if b == entry_minus
    then option_map opposite_fraction (unsigned_value text)
    else (if b == entry_plus then unsigned_value text else unsigned_value (b ∷ text))
