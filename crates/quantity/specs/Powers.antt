-- Powers of quantities.
use Rattle.std.specs.Prelude.{ℤ, not, Option, Result, Ok, Err, if◌then◌else◌}
use Rattle.std.specs.FinMap as map_of
use Rattle.frac128.specs.Fraction.{Fraction}
use Rattle.frac128.specs.Powers.{fraction_power}
use Rattle.frac128.specs.Roots.{fraction_root}
use Rattle.frac128.specs.declared.fault.FracFault.{FracFault}
use Rattle.quantity.specs.Amount.{Amount, has_no_exponents}
use Rattle.quantity.specs.Answers.{exponents_in_range, quantity_from}
use Rattle.quantity.specs.Degrees.{is_power_degree}
use Rattle.quantity.specs.Exponents.{Exponents, exponent_of, exponent_product}
use Rattle.quantity.specs.declared.fault.QuantityFault.{QuantityFault}
use Rattle.quantity.specs.declared.fault.QuantityFault.TheVariants.{ExponentNotNumber, ExponentRange}

-- the power of a root, if the root exists
abbrev pub quantity_number_root_power : Result Fraction FracFault → ℤ → Result Fraction FracFault
quantity_number_root_power (Ok root) k = fraction_power root k
quantity_number_root_power (Err fault) k = Err fault

-- x to the power p/q: the power p of the root q
abbrev pub quantity_number_power : Fraction → Fraction → Result Fraction FracFault
quantity_number_power x by = quantity_number_root_power (fraction_root x by.den) by.num

-- each exponent multiplied by a fraction
unfoldable pub power_exponents : Exponents → Fraction → Option Exponents
power_exponents p by = exponents_in_range (λ name. exponent_product (exponent_of p name) by) (map_of.keys p)

abbrev pub quantity_power : Amount → Amount → Result Amount QuantityFault
quantity_power x by =
    if not (has_no_exponents by) then Err ExponentNotNumber
    else (if not (is_power_degree by.value) then Err ExponentRange
    else quantity_from (quantity_number_power x.value by.value) (power_exponents x.exponents by.value))
