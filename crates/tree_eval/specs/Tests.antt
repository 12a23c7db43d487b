-- The tests of a quantity at one end of a function.
use Rattle.std.specs.Prelude.{◌&&◌, Bool, true, if◌then◌else◌, Option, Some, None, Result, Ok, Err}
use Rattle.std.specs.Ordering.{is_le, is_lt}
use Rattle.def_entry.specs.declared.entry.Bound.{Bound}
use Rattle.def_entry.specs.declared.entry.Span.{Span}
use Rattle.frac128.specs.Fraction.{Fraction}
use Rattle.frac128.specs.Order.{fraction_order}
use Rattle.frac128.specs.Steps.{fraction_quotient}
use Rattle.quantity.specs.Amount.{Amount, exponents_conform, has_no_exponents}
use Rattle.tree_eval.specs.declared.fault.ValueFault.{ValueFault}
use Rattle.units_io.specs.Outcomes.{◌>>=◌}
use Rattle.tree_eval.specs.Steps.{ValueOrFault, fraction_step_value}

-- the number is above the bound, or equal to it if the bound is closed
abbrev pub is_above_value_bound : Option Bound → Fraction → Bool
is_above_value_bound None x = true
is_above_value_bound (Some b) x = if b.closed then is_le (fraction_order b.at x) else is_lt (fraction_order b.at x)

-- the number is below the bound, or equal to it if the bound is closed
abbrev pub is_below_value_bound : Option Bound → Fraction → Bool
is_below_value_bound None x = true
is_below_value_bound (Some b) x = if b.closed then is_le (fraction_order x b.at) else is_lt (fraction_order x b.at)

abbrev pub is_value_within_span : Span → Fraction → Bool
is_value_within_span span x = is_above_value_bound span.low x && is_below_value_bound span.high x

-- the quantity conforms to the unit, or is a number if there is only a span
abbrev pub value_unit_check : (wrong : ValueFault) → (unit : Option Amount) → Option Span → Amount → ValueOrFault
value_unit_check wrong (Some unit) span q = if exponents_conform q.exponents unit.exponents then Ok q else Err wrong
value_unit_check wrong None (Some span) q = if has_no_exponents q then Ok q else Err wrong
value_unit_check wrong None None q = Ok q

-- the number of a quantity in the unit, or its own number if there is no unit
abbrev pub value_number_in_unit : (unit : Option Amount) → Amount → Result Fraction ValueFault
value_number_in_unit (Some unit) q = fraction_step_value (fraction_quotient q.value unit.value)
value_number_in_unit None q = Ok q.value

-- the number of a quantity in the unit is in the span, if there is one
abbrev pub value_inside_span : (outside : ValueFault) → (unit : Option Amount) → Option Span → Amount → ValueOrFault
value_inside_span outside unit None q = Ok q
value_inside_span outside unit (Some span) q = do
  x ← value_number_in_unit unit q
  if is_value_within_span span x then Ok q else Err outside

-- the test of a quantity at one end of a function, by the value of its unit, if it has one
abbrev pub value_tested_by_unit_and_span : (wrong outside : ValueFault) → (unit : Result (Option Amount) ValueFault)
    → Option Span → Amount
    → ValueOrFault
value_tested_by_unit_and_span wrong outside unit span q = do
  u ← unit
  _ ← value_unit_check wrong u span q
  value_inside_span outside u span q
