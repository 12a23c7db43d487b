-- The value of an expanded expression, or the first fault from left to right.
use Rattle.std.specs.Prelude.{ℕ, pos, nat_lt, List, Option, Some, None, Result, Ok, Err, if◌then◌else◌}
use Rattle.std.specs.FinMap as map_of
use Rattle.frac128.specs.Decimals.{fraction_of_decimal}
use Rattle.frac128.specs.Fraction.{Fraction, whole_fraction}
use Rattle.frac128.specs.Steps.{fraction_quotient}
use Rattle.piecewise.specs.declared.fault.TableFault.{TableFault}
use Rattle.piecewise.specs.declared.fault.TableFault.TheVariants as table
use Rattle.piecewise.specs.Tables.{x_at_y_on_points, y_at_x_on_points}
use Rattle.quantity.specs.Amount.{Amount, exponents_conform, has_no_exponents}
use Rattle.quantity.specs.Powers.{quantity_power}
use Rattle.quantity.specs.Products.{quantity_product}
use Rattle.tree_eval.specs.declared.fault.ValueFault.{ValueFault}
use Rattle.tree_eval.specs.declared.fault.ValueFault.TheVariants as fault
use Rattle.tree_eval.specs.Expansions.{Expanded, Number, Bar, Argument, Primitive, Dimensionless, Named, Prefixed}
use Rattle.tree_eval.specs.Expansions.{Uncalled, Applied, Unapplied, Root, Group, Negated, Power, Chain}
use Rattle.tree_eval.specs.Expansions.{Links, NoLink, Link, Callable, Function, Alias, Table, Given, Absent, Present}
use Rattle.tree_eval.specs.Expansions.{eval_callable_name}
use Rattle.units_io.specs.Outcomes.{◌>>=◌}
use Rattle.tree_eval.specs.Steps.{ValueOrFault, value_of_quantity_step, operand_step_value, negative_value}
use Rattle.tree_eval.specs.Steps.{numeral_quotient_value, value_of_number, value_one, plain_number_value, root_value}
use Rattle.tree_eval.specs.Tests.{value_tested_by_unit_and_span}

-- the quantity 1 of a primitive unit
abbrev pub primitive_value : List ℕ → Amount
primitive_value name =
    record { value = whole_fraction (pos 1); exponents = map_of.insert map_of.empty name (whole_fraction (pos 1)) }

-- the argument, or 1 if none is given
abbrev pub argument_or_one : Option Amount → Amount
argument_or_one (Some a) = a
argument_or_one None = value_one

-- the greatest rank of a function that may be called
abbrev pub most_rank : ℕ
most_rank = 16

-- the result of a call of the function with this rank and this name, unless it is too deep
abbrev pub value_if_rank_allowed : ℕ → List ℕ → ValueOrFault → ValueOrFault
value_if_rank_allowed rank name call = if nat_lt most_rank rank then Err (fault.CallsTooDeep name) else call

-- the result of a lookup in the table with this name
abbrev pub table_lookup_value : List ℕ → Result Fraction TableFault → ValueOrFault
table_lookup_value name (Ok x) = Ok (plain_number_value x)
table_lookup_value name (Err table.OutsideTable) = Err (fault.OutsideTable name)
table_lookup_value name (Err (table.Number f)) = Err (fault.Number f)

-- the table with this name requires a number
abbrev pub value_as_number : List ℕ → Amount → ValueOrFault
value_as_number name x = if has_no_exponents x then Ok x else Err (fault.WrongArgument name)

-- a quantity that conforms to the unit of a table, as a number in that unit
abbrev pub value_in_table_unit : List ℕ → Amount → Amount → ValueOrFault
value_in_table_unit name unit x =
    if exponents_conform x.exponents unit.exponents then value_of_number (fraction_quotient x.value unit.value) else Err
    (fault.WrongArgument name)

abbrev mutual
  -- a: the argument of the function whose expression this is
  pub value : Expanded → Option Amount → ValueOrFault
  value (Number x) a = value_of_number (fraction_of_decimal x)
  value (Bar x y) a = value_of_number (numeral_quotient_value x y)
  value Argument a = Ok (argument_or_one a)
  value (Primitive name) a = Ok (primitive_value name)
  value Dimensionless a = Ok value_one
  value (Named x) a = value x None
  value (Prefixed x y) a = do
    p ← value x None
    u ← value y None
    value_of_quantity_step (quantity_product p u)
  value (Uncalled f) a = Err (fault.NeedsArgument (eval_callable_name f))
  value (Applied f x) a = do
    b ← value x a
    value_at f b
  value (Unapplied f x) a = do
    b ← value x a
    inverse_value_at f b
  value (Root kind x) a = do
    v ← value x a
    root_value kind v
  value (Group x) a = value x a
  value (Negated x) a = do
    v ← value x a
    Ok (negative_value v)
  value (Power x y) a = do
    base ← value x a
    exponent ← value y a
    value_of_quantity_step (quantity_power base exponent)
  value (Chain x links) a = do
    v ← value x a
    chain_value v links a

  -- the running value combined with the further members
  pub chain_value : Amount → Links → Option Amount → ValueOrFault
  chain_value v NoLink a = Ok v
  chain_value v (Link step x links) a = do
    w ← value x a
    next ← operand_step_value step v w
    chain_value next links a

  -- the value of a function at an argument
  pub value_at : Callable → Amount → ValueOrFault
  value_at (Function name rank in_unit out_unit domain range forward inverse) a = value_if_rank_allowed rank name (do
    _ ← value_tested_by_unit_and_span (fault.WrongArgument name) (fault.NotInDomain name) (optional_unit_value in_unit)
        domain a
    result ← value forward (Some a)
    value_tested_by_unit_and_span (fault.WrongResult name) (fault.NotInRange name) (optional_unit_value out_unit) range
        result)
  value_at (Alias name rank target) a = value_if_rank_allowed rank name (value_at target a)
  value_at (Table name rank unit points) a = value_if_rank_allowed rank name (do
    x ← value_as_number name a
    u ← value unit None
    y ← table_lookup_value name (y_at_x_on_points points x.value)
    value_of_quantity_step (quantity_product y u))

  -- the inverse of a function at a value
  pub inverse_value_at : Callable → Amount → ValueOrFault
  inverse_value_at (Function name rank in_unit out_unit domain range forward Absent) b =
      value_if_rank_allowed rank name (Err (fault.NoInverse name))
  inverse_value_at (Function name rank in_unit out_unit domain range forward (Present inverse)) b =
      value_if_rank_allowed rank name (do
        _ ← value_tested_by_unit_and_span (fault.WrongArgument name) (fault.NotInRange name)
            (optional_unit_value out_unit) range b
        result ← value inverse (Some b)
        value_tested_by_unit_and_span (fault.WrongResult name) (fault.NotInDomain name) (optional_unit_value in_unit)
            domain result)
  inverse_value_at (Alias name rank target) b = value_if_rank_allowed rank name (inverse_value_at target b)
  inverse_value_at (Table name rank unit points) b = value_if_rank_allowed rank name (do
    u ← value unit None
    y ← value_in_table_unit name u b
    table_lookup_value name (x_at_y_on_points points y.value))

  -- the value of an optional unit
  pub optional_unit_value : Given → Result (Option Amount) ValueFault
  optional_unit_value Absent = Ok None
  optional_unit_value (Present x) = do
    u ← value x None
    Ok (Some u)
