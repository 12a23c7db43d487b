-- Values of some expressions with units, of functions and of tables, found by hand.
use Rattle.std.specs.Prelude.{◌≡◌, ℕ, ℤ, pos, negsuc, List, [], ◌∷◌, Option, Some, None, Ok, Err, codes}
use Rattle.std.specs.FinMap as map_of
use Rattle.frac128.specs.Fraction.{Fraction, whole_fraction}
use Rattle.frac128.specs.declared.fault.FracFault.TheVariants.{DivisionByZero, NoExactRoot}
use Rattle.def_entry.specs.declared.entry.Span.{Span}
use Rattle.expr_tree.specs.declared.operator.RootKind.TheVariants.{Square}
use Rattle.quantity.specs.Amount.{Amount}
use Rattle.tree_eval.specs.declared.fault.ValueFault.TheVariants as fault
use Rattle.tree_eval.specs.declared.step.Step.{Step}
use Rattle.tree_eval.specs.declared.step.Step.TheVariants.{Add, Divide, Multiply, Subtract}
use Rattle.tree_eval.specs.Examples.{eval_example_quotient, eval_identity_function, eval_number_three}
use Rattle.tree_eval.specs.Examples.{eval_one_over_zero, half_open_argument_span, expanded_eval_numeral}
use Rattle.tree_eval.specs.Expansions.{Absent, Alias, Applied, Argument, Callable, Chain, Expanded, Function, Given}
use Rattle.tree_eval.specs.Expansions.{Link, Named, NoLink, Power, Prefixed, Present, Primitive, Root, Table, Unapplied}
use Rattle.tree_eval.specs.Steps.{ValueOrFault, plain_number_value, value_one}
use Rattle.tree_eval.specs.Value.{value}

-- ---- units

-- a number times a power of a unit
abbrev pub eval_example_measure : Fraction → (unit : List ℕ) → (exponent : Fraction) → Amount
eval_example_measure x unit exponent = record { value = x; exponents = map_of.insert map_of.empty unit exponent }

abbrev pub eval_example_metres : ℤ → Amount
eval_example_metres n = eval_example_measure (whole_fraction n) (codes "m") (whole_fraction (pos 1))

abbrev pub eval_example_seconds : ℤ → Amount
eval_example_seconds n = eval_example_measure (whole_fraction n) (codes "s") (whole_fraction (pos 1))

-- the units `m` and `s`
abbrev pub eval_metre : Expanded
eval_metre = Named (Primitive (codes "m"))

abbrev pub eval_second : Expanded
eval_second = Named (Primitive (codes "s"))

-- one step on two expressions
abbrev pub eval_example_step : Step → Expanded → Expanded → Expanded
eval_example_step step x y = Chain x (Link step y NoLink)

-- `2 m`
abbrev pub eval_two_metres : Expanded
eval_two_metres = eval_example_step Multiply (expanded_eval_numeral 2 (pos 0)) eval_metre

-- the value of an expression that is not part of a function
abbrev pub value_alone : Expanded → ValueOrFault
value_alone x = value x None

-- a product with a unit; a prefix; a quotient of a unit by itself; a reciprocal; a power and a root; sums and
-- differences of like and of unlike quantities; exponents that are not numbers or are out of range; and a root that is
-- not a fraction
pub record UnitValuesLaw : Type 0 where
  pub multiple : value_alone (eval_example_step Multiply eval_number_three eval_metre) ≡ Ok
      (eval_example_metres (pos 3))
  pub with_a_prefix : value_alone (Prefixed (expanded_eval_numeral 1000 (pos 0)) (Primitive (codes "m"))) ≡ Ok
      (eval_example_metres (pos 1000))
  pub ratio_of_like_units : value_alone (eval_example_step Divide eval_metre eval_metre) ≡ Ok value_one
  pub reciprocal : value_alone (eval_example_step Divide (expanded_eval_numeral 1 (pos 0)) eval_second)
      ≡ Ok (eval_example_measure (whole_fraction (pos 1)) (codes "s") (whole_fraction (negsuc 0)))
  pub square : value_alone (Power eval_metre (expanded_eval_numeral 2 (pos 0)))
      ≡ Ok (eval_example_measure (whole_fraction (pos 1)) (codes "m") (whole_fraction (pos 2)))
  pub square_root : value_alone (Root Square eval_metre) ≡ Ok
      (eval_example_measure (whole_fraction (pos 1)) (codes "m") (eval_example_quotient (pos 1) 2))
  pub sum : value_alone (eval_example_step Add eval_metre eval_metre) ≡ Ok (eval_example_metres (pos 2))
  pub difference : value_alone (eval_example_step Subtract eval_metre eval_metre) ≡ Ok (eval_example_metres (pos 0))
  pub unlike_sum : value_alone (eval_example_step Add eval_metre eval_second) ≡ Err
      (fault.NotConformable (eval_example_metres (pos 1)) (eval_example_seconds (pos 1)))
  pub unlike_difference : value_alone (eval_example_step Subtract eval_second eval_metre)
      ≡ Err (fault.NotConformable (eval_example_seconds (pos 1)) (eval_example_metres (pos 1)))
  pub sum_with_a_number : value_alone (eval_example_step Add eval_metre eval_number_three)
      ≡ Err (fault.NotConformable (eval_example_metres (pos 1)) (plain_number_value (whole_fraction (pos 3))))
  pub exponent_with_a_unit : value_alone (Power eval_number_three eval_metre) ≡ Err fault.ExponentNotNumber
  pub exponent_out_of_range : value_alone (Power eval_metre (expanded_eval_numeral 32768 (pos 0))) ≡ Err
      fault.ExponentRange
  pub no_exact_root : value_alone (Root Square (expanded_eval_numeral 2 (pos 0))) ≡ Err (fault.Number NoExactRoot)

-- ---- functions

abbrev pub eval_example_function : (in_unit out_unit : Given) → (domain range : Option Span) → Expanded
    → (inverse : Given)
    → Callable
eval_example_function in_unit out_unit domain range forward inverse =
    Function (codes "f") 1 in_unit out_unit domain range forward inverse

-- a function that returns its argument, with these tests of the argument and of the result
abbrev pub argument_testing_function : (in_unit out_unit : Given) → (domain range : Option Span) → Callable
argument_testing_function in_unit out_unit domain range = eval_example_function in_unit out_unit domain range Argument
    (Present Argument)

-- a function that is 3 everywhere, and whose inverse is 5 everywhere
abbrev pub inverse_example_function : Callable
inverse_example_function = eval_example_function Absent Absent None None eval_number_three
    (Present (expanded_eval_numeral 5 (pos 0)))

-- The value at an argument: the argument is tested by the in unit and the domain before the forward expression is
-- evaluated; its value is then tested by the out unit and the range. The unit is tested before the interval, and the
-- number in the interval is the number of the quantity in the unit.
pub record ArgumentLaw : Type 0 where
  pub in_unit : value_alone (Applied (argument_testing_function (Present eval_metre) Absent None None) eval_metre) ≡ Ok
      (eval_example_metres (pos 1))
  pub wrong_argument : value_alone
      (Applied (argument_testing_function (Present eval_metre) Absent None None) eval_second)
      ≡ Err (fault.WrongArgument (codes "f"))
  pub number_for_a_unit : value_alone
      (Applied (argument_testing_function (Present eval_metre) Absent None None) eval_number_three)
      ≡ Err (fault.WrongArgument (codes "f"))
  pub wrong_result : value_alone (Applied (argument_testing_function Absent (Present eval_metre) None None) eval_second)
      ≡ Err (fault.WrongResult (codes "f"))
  pub unit_for_a_number : value_alone
      (Applied (argument_testing_function Absent Absent (Some half_open_argument_span) None) eval_metre)
      ≡ Err (fault.WrongArgument (codes "f"))
  pub not_in_domain : value_alone
      (Applied (argument_testing_function (Present eval_metre) Absent (Some half_open_argument_span) None) eval_metre)
      ≡ Err (fault.NotInDomain (codes "f"))
  pub domain_in_units : value_alone
      (Applied (argument_testing_function (Present eval_two_metres) Absent (Some half_open_argument_span) None)
      eval_metre)
      ≡ Ok (eval_example_metres (pos 1))
  pub not_in_range : value_alone
      (Applied (argument_testing_function Absent (Present eval_metre) None (Some half_open_argument_span)) eval_metre)
      ≡ Err (fault.NotInRange (codes "f"))
  pub range_in_units : value_alone
      (Applied (argument_testing_function Absent (Present eval_two_metres) None (Some half_open_argument_span))
      eval_metre)
      ≡ Ok (eval_example_metres (pos 1))
  pub unit_before_domain : value_alone
      (Applied (argument_testing_function (Present eval_metre) Absent (Some half_open_argument_span) None) eval_second)
      ≡ Err (fault.WrongArgument (codes "f"))
  pub unit_before_range : value_alone
      (Applied (argument_testing_function Absent (Present eval_metre) None (Some half_open_argument_span)) eval_second)
      ≡ Err (fault.WrongResult (codes "f"))
  pub argument_before_value : value_alone
      (Applied (eval_example_function (Present eval_metre) Absent None None eval_one_over_zero Absent) eval_second)
      ≡ Err (fault.WrongArgument (codes "f"))
  pub value_before_result : value_alone
      (Applied (eval_example_function Absent (Present eval_metre) None None eval_one_over_zero Absent) eval_second)
      ≡ Err (fault.Number DivisionByZero)

-- An inverse: its argument is tested by the out unit and the range, its result by the in unit and the domain. The
-- inverse of an alias is that of its target. A rank above 16 is also too deep for an inverse, and for an alias of a
-- function that is not too deep itself.
pub record FunctionInverseLaw : Type 0 where
  pub forward : value_alone (Applied inverse_example_function (expanded_eval_numeral 1 (pos 0))) ≡ Ok
      (plain_number_value (whole_fraction (pos 3)))
  pub backward : value_alone (Unapplied inverse_example_function (expanded_eval_numeral 1 (pos 0))) ≡ Ok
      (plain_number_value (whole_fraction (pos 5)))
  pub backward_by_alias : value_alone
      (Unapplied (Alias (codes "g") 2 inverse_example_function) (expanded_eval_numeral 1 (pos 0)))
      ≡ Ok (plain_number_value (whole_fraction (pos 5)))
  pub wrong_argument : value_alone
      (Unapplied (argument_testing_function Absent (Present eval_metre) None None) eval_second)
      ≡ Err (fault.WrongArgument (codes "f"))
  pub wrong_result : value_alone
      (Unapplied (argument_testing_function (Present eval_metre) Absent None None) eval_second)
      ≡ Err (fault.WrongResult (codes "f"))
  pub not_in_range : value_alone
      (Unapplied (argument_testing_function Absent Absent None (Some half_open_argument_span))
      (expanded_eval_numeral 1 (pos 0)))
      ≡ Err (fault.NotInRange (codes "f"))
  pub not_in_domain : value_alone
      (Unapplied (argument_testing_function Absent Absent (Some half_open_argument_span) None)
      (expanded_eval_numeral 1 (pos 0)))
      ≡ Err (fault.NotInDomain (codes "f"))
  pub too_deep : value_alone (Unapplied (eval_identity_function 17) eval_number_three) ≡ Err
      (fault.CallsTooDeep (codes "same"))
  pub not_too_deep : value_alone (Unapplied (eval_identity_function 16) eval_number_three) ≡ Err
      (fault.NoInverse (codes "same"))
  pub too_deep_alias : value_alone (Applied (Alias (codes "other") 17 (eval_identity_function 16)) eval_number_three)
      ≡ Err (fault.CallsTooDeep (codes "other"))

-- ---- tables

-- the table `t[m] 1 0, 3 2`, with this rank
abbrev pub table_of_rank : ℕ → Callable
table_of_rank rank = Table (codes "t") rank eval_metre
    ((whole_fraction (pos 1), whole_fraction (pos 0)) ∷ (whole_fraction (pos 3), whole_fraction (pos 2)) ∷ [])

abbrev pub eval_example_table : Callable
eval_example_table = table_of_rank 1

-- A table takes a number and returns a quantity in its unit; its inverse takes a quantity that conforms to the unit,
-- and returns a number. Between two points both follow the straight line; outside the points there is no value.
pub record TableValuesLaw : Type 0 where
  pub forward : value_alone (Applied eval_example_table (expanded_eval_numeral 2 (pos 0))) ≡ Ok
      (eval_example_metres (pos 1))
  pub backward : value_alone (Unapplied eval_example_table eval_metre) ≡ Ok
      (plain_number_value (whole_fraction (pos 2)))
  pub above_table : value_alone (Applied eval_example_table (expanded_eval_numeral 4 (pos 0))) ≡ Err
      (fault.OutsideTable (codes "t"))
  pub below_table : value_alone (Applied eval_example_table (expanded_eval_numeral 0 (pos 0))) ≡ Err
      (fault.OutsideTable (codes "t"))
  pub wrong_argument : value_alone (Applied eval_example_table eval_metre) ≡ Err (fault.WrongArgument (codes "t"))
  pub wrong_value : value_alone (Unapplied eval_example_table eval_second) ≡ Err (fault.WrongArgument (codes "t"))
  pub number_for_a_unit : value_alone (Unapplied eval_example_table eval_number_three) ≡ Err
      (fault.WrongArgument (codes "t"))
  pub too_deep : value_alone (Applied (table_of_rank 17) eval_number_three) ≡ Err (fault.CallsTooDeep (codes "t"))
  pub backward_too_deep : value_alone (Unapplied (table_of_rank 17) eval_metre) ≡ Err (fault.CallsTooDeep (codes "t"))

-- law: all of these hold
pub record EvalUnitExamplesLaw : Type 0 where
  pub units : UnitValuesLaw
  pub arguments : ArgumentLaw
  pub inverse_examples : FunctionInverseLaw
  pub tables : TableValuesLaw
