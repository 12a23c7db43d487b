-- The reduced text of a quantity.
use Rattle.std.specs.Prelude.{◌==◌, ◌++◌, ℕ, List, [], ◌∷◌, Bool, unsigned_abs, if◌then◌else◌, codes}
use Rattle.std.specs.FinMap as map_of
use Rattle.std.specs.Fmt.{decimal}
use Rattle.std.specs.List.{filter, flat_map}
use Rattle.frac128.specs.Fraction.{Fraction}
use Rattle.frac128.specs.Sign as sign
use Rattle.digits_print.specs.Styles.{printed_number_text}
use Rattle.digits_print.specs.declared.style.Style.{Style}
use Rattle.quantity.specs.Amount.{Amount}
use Rattle.quantity.specs.Exponents.{Exponents}
use Rattle.quantity.specs.declared.text.Side.{Side}
use Rattle.quantity.specs.declared.text.Side.TheVariants.{Above, Below}

-- the exponent n/d after its name: nothing for 1, otherwise `^n`, or `^n|d` if d is above 1
abbrev pub exponent_text : ℕ → ℕ → List ℕ
exponent_text n d =
    if d == 1
    then (if n == 1 then [] else codes "^" ++ decimal n)
    else codes "^" ++ decimal n ++ codes "|" ++ decimal d

-- a space, the name and the magnitude of its exponent
abbrev pub unit_power_text : List ℕ × Fraction → List ℕ
unit_power_text e = codes " " ++ e.0 ++ exponent_text (unsigned_abs e.1.num) e.1.den

-- the power is written before the slash
abbrev pub is_power_before_slash : List ℕ × Fraction → Bool
is_power_before_slash e = sign.is_positive_fraction e.1

-- the power is written after the slash
abbrev pub is_power_after_slash : List ℕ × Fraction → Bool
is_power_after_slash e = sign.is_negative_fraction e.1

-- the powers on one side of the slash
abbrev pub is_power_on_side : Side → List ℕ × Fraction → Bool
is_power_on_side Above e = is_power_before_slash e
is_power_on_side Below e = is_power_after_slash e

-- the names after the slash, with the slash, or nothing if there are none
abbrev pub divisor_powers_text : List (List ℕ × Fraction) → List ℕ
divisor_powers_text [] = []
divisor_powers_text (e ∷ es) = codes " /" ++ flat_map unit_power_text (e ∷ es)

-- the names with positive exponents in order and, after a slash, those with negative ones
abbrev pub listed_powers_text : List (List ℕ × Fraction) → List ℕ
listed_powers_text powers = flat_map unit_power_text (filter is_power_before_slash powers) ++ divisor_powers_text
    (filter is_power_after_slash powers)

abbrev pub powers_text : Exponents → List ℕ
powers_text exponents = listed_powers_text (map_of.entries exponents)

-- the number and the names, in byte order
abbrev pub quantity_text : Style → Amount → List ℕ
quantity_text style x = printed_number_text style x.value ++ powers_text x.exponents
