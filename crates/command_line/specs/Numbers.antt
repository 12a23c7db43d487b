-- Whole numbers as they are written in words.
use Rattle.std.specs.Prelude.{ℕ, ◌≤◌, List}
use Rattle.std.specs.Str.Parse.{IsNumeral, digits_value, without_leading_plus}

-- the number that digits denote, with or without a leading plus
abbrev pub option_decimal_number : List ℕ → ℕ
option_decimal_number text = digits_value 10 (without_leading_plus text)

-- the text denotes a whole number from 1 to high
abbrev pub IsOptionNumberUpTo : ℕ → List ℕ → Type 0
IsOptionNumberUpTo high text =
    IsNumeral 10 (without_leading_plus text) × (1 ≤ option_decimal_number text) × (option_decimal_number text ≤ high)
