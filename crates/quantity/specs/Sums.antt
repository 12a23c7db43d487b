-- Sums and differences of quantities.
use Rattle.std.specs.Prelude.{Some, Result, Err, if◌then◌else◌}
use Rattle.frac128.specs.Fraction.{Fraction}
use Rattle.frac128.specs.Sums.{fraction_difference, fraction_sum}
use Rattle.frac128.specs.declared.fault.FracFault.{FracFault}
use Rattle.quantity.specs.Amount.{Amount, exponents_conform}
use Rattle.quantity.specs.Answers.{quantity_from}
use Rattle.quantity.specs.declared.fault.QuantityFault.{QuantityFault}
use Rattle.quantity.specs.declared.fault.QuantityFault.TheVariants.{NotConformable}

-- the result of an operation on the numbers of two quantities, which must conform
abbrev pub conforming_quantity_step : Result Fraction FracFault → Amount → Amount → Result Amount QuantityFault
conforming_quantity_step number x y =
    if exponents_conform x.exponents y.exponents
    then quantity_from number (Some x.exponents)
    else Err (NotConformable x y)

abbrev pub quantity_sum : Amount → Amount → Result Amount QuantityFault
quantity_sum x y = conforming_quantity_step (fraction_sum x.value y.value) x y

abbrev pub quantity_difference : Amount → Amount → Result Amount QuantityFault
quantity_difference x y = conforming_quantity_step (fraction_difference x.value y.value) x y
