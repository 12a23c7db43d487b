-- The steps of an evaluation, each of which may fail.
use Rattle.std.specs.Prelude.{pos, Result, Ok, Err}
use Rattle.std.specs.FinMap as map_of
use Rattle.units_io.specs.Outcomes.{◌>>=◌}
use Rattle.expr_tree.specs.declared.operator.RootKind.{RootKind}
use Rattle.expr_tree.specs.Syntax.{degree}
use Rattle.frac128.specs.declared.fault.FracFault.{FracFault}
use Rattle.frac128.specs.Decimals.{NumeralDecimal, fraction_of_decimal}
use Rattle.frac128.specs.Fraction.{Fraction, opposite_fraction, whole_fraction}
use Rattle.frac128.specs.Steps.{fraction_quotient, ratio}
use Rattle.quantity.specs.Amount.{Amount}
use Rattle.quantity.specs.Powers.{quantity_power}
use Rattle.quantity.specs.Products.{quantity_product, quantity_quotient}
use Rattle.quantity.specs.Sums.{quantity_difference, quantity_sum}
use Rattle.quantity.specs.declared.fault.QuantityFault.{QuantityFault}
use Rattle.tree_eval.specs.declared.fault.ValueFault.{ValueFault}
use Rattle.tree_eval.specs.declared.fault.ValueFault.TheVariants.{Number}
use Rattle.tree_eval.specs.declared.step.Step.{Step}
use Rattle.tree_eval.specs.Faults.{eval_quantity_fault}
use Rattle.tree_eval.specs.declared.step.Step.TheVariants.{Multiply, Divide, Add, Subtract}

abbrev pub ValueOrFault : Type 0
ValueOrFault = Result Amount ValueFault

-- a number without exponents
abbrev pub plain_number_value : Fraction → Amount
plain_number_value x = record { value = x; exponents = map_of.empty }

abbrev pub value_one : Amount
value_one = plain_number_value (whole_fraction (pos 1))

-- the result of a step on fractions
abbrev pub fraction_step_value : Result Fraction FracFault → Result Fraction ValueFault
fraction_step_value (Ok x) = Ok x
fraction_step_value (Err fault) = Err (Number fault)

-- the result of a step on fractions, as a number without exponents
abbrev pub value_of_number : Result Fraction FracFault → ValueOrFault
value_of_number (Ok x) = Ok (plain_number_value x)
value_of_number (Err fault) = Err (Number fault)

-- the result of a step on quantities
abbrev pub value_of_quantity_step : Result Amount QuantityFault → ValueOrFault
value_of_quantity_step (Ok x) = Ok x
value_of_quantity_step (Err fault) = Err (eval_quantity_fault fault)

-- the quotient of two numerals
abbrev pub numeral_quotient_value : NumeralDecimal → NumeralDecimal → Result Fraction FracFault
numeral_quotient_value x y = do
  p ← fraction_of_decimal x
  q ← fraction_of_decimal y
  fraction_quotient p q

-- the step that takes one more member
abbrev pub operand_step : Step → Amount → Amount → Result Amount QuantityFault
operand_step Multiply = quantity_product
operand_step Divide = quantity_quotient
operand_step Add = quantity_sum
operand_step Subtract = quantity_difference

abbrev pub operand_step_value : Step → Amount → Amount → ValueOrFault
operand_step_value step x y = value_of_quantity_step (operand_step step x y)

-- a root: the power whose exponent is 1 over the degree
abbrev pub root_value : RootKind → Amount → ValueOrFault
root_value kind x = do
  exponent ← value_of_number (ratio (pos 1) (pos (degree kind)))
  value_of_quantity_step (quantity_power x exponent)

abbrev pub negative_value : Amount → Amount
negative_value x = record x { value = opposite_fraction x.value }
