-- Products and quotients of quantities.
use Rattle.std.specs.Prelude.{◌≡◌, ℕ, List, Option, Some, Result}
use Rattle.std.specs.FinMap as map_of
use Rattle.frac128.specs.Fraction.{Fraction}
use Rattle.frac128.specs.Steps.{fraction_product, fraction_quotient}
use Rattle.quantity.specs.Amount.{Amount}
use Rattle.quantity.specs.Answers.{exponents_in_range, quantity_from}
use Rattle.quantity.specs.Exponents.{AreExponents, Exponents, exponent_difference, exponent_of, exponent_sum}
use Rattle.quantity.specs.Exponents.{names_of_both_exponents}
use Rattle.quantity.specs.declared.fault.QuantityFault.{QuantityFault}

-- the sum of the two exponents of each name
unfoldable pub product_exponents : Exponents → Exponents → Option Exponents
product_exponents p o = exponents_in_range (λ name. exponent_sum (exponent_of p name) (exponent_of o name))
    (names_of_both_exponents p o)

-- the difference of the two exponents of each name
unfoldable pub quotient_exponents : Exponents → Exponents → Option Exponents
quotient_exponents p o = exponents_in_range (λ name. exponent_difference (exponent_of p name) (exponent_of o name))
    (names_of_both_exponents p o)

-- a number without exponents
abbrev pub plain_quantity : Fraction → Amount
plain_quantity x = record { value = x; exponents = map_of.empty }

abbrev pub quantity_product : Amount → Amount → Result Amount QuantityFault
quantity_product x y = quantity_from (fraction_product x.value y.value) (product_exponents x.exponents y.exponents)

abbrev pub quantity_quotient : Amount → Amount → Result Amount QuantityFault
quantity_quotient x y = quantity_from (fraction_quotient x.value y.value) (quotient_exponents x.exponents y.exponents)

-- law: each exponent of a product is the sum of the two exponents, and that of a quotient their difference, even if it
-- is 0
abbrev pub ProductExponentsLaw : Type 0
ProductExponentsLaw = (p o r : Exponents) → AreExponents p → AreExponents o
    → (product_exponents p o ≡ Some r → (name : List ℕ)
    → exponent_of r name ≡ exponent_sum (exponent_of p name) (exponent_of o name))
    × (quotient_exponents p o ≡ Some r → (name : List ℕ)
    → exponent_of r name ≡ exponent_difference (exponent_of p name) (exponent_of o name))
