-- Values of some expressions and tests of some numbers, found by hand.
use Rattle.std.specs.Prelude.{◌≡◌, ℕ, ℤ, pos, negsuc, Bool, true, false, Some, None, Ok, Err, codes}
use Rattle.frac128.specs.Decimals.{NumeralDecimal}
use Rattle.frac128.specs.Fraction.{Fraction, whole_fraction}
use Rattle.frac128.specs.declared.fault.FracFault.TheVariants.{DivisionByZero}
use Rattle.def_entry.specs.declared.entry.Bound.{Bound}
use Rattle.def_entry.specs.declared.entry.Span.{Span}
use Rattle.tree_eval.specs.declared.fault.ValueFault.TheVariants as fault
use Rattle.tree_eval.specs.declared.step.Step.TheVariants.{Multiply}
use Rattle.tree_eval.specs.Expansions.{Absent, Alias, Applied, Argument, Bar, Callable, Chain, Expanded, Function, Link}
use Rattle.tree_eval.specs.Expansions.{Negated, NoLink, Number, Unapplied, Uncalled}
use Rattle.tree_eval.specs.Steps.{plain_number_value, value_one}
use Rattle.tree_eval.specs.Tests.{is_value_within_span, value_inside_span}
use Rattle.tree_eval.specs.Value.{value}

-- a quotient in lowest terms
abbrev pub eval_example_quotient : ℤ → ℕ → Fraction
eval_example_quotient n d = record { num = n; den = d }

-- a decimal with these digits, scaled by a power of ten
abbrev pub eval_example_decimal : ℕ → ℤ → NumeralDecimal
eval_example_decimal digits scale = record { coefficient = digits; scale = scale }

-- a numeral
abbrev pub expanded_eval_numeral : ℕ → ℤ → Expanded
expanded_eval_numeral digits scale = Number (eval_example_decimal digits scale)

-- 3
abbrev pub eval_number_three : Expanded
eval_number_three = expanded_eval_numeral 3 (pos 0)

-- 1|0
abbrev pub eval_one_over_zero : Expanded
eval_one_over_zero = Bar (eval_example_decimal 1 (pos 0)) (eval_example_decimal 0 (pos 0))

-- a function of this rank that returns its argument, and has no inverse
abbrev pub eval_identity_function : ℕ → Callable
eval_identity_function rank = Function (codes "same") rank Absent Absent None None Argument Absent

-- the values of expressions that are not part of a function
pub record ExpressionValuesLaw : Type 0 where
  pub decimals : value (expanded_eval_numeral 25 (negsuc 0)) None ≡ Ok
      (plain_number_value (eval_example_quotient (pos 5) 2))
  pub quotients : value (Bar (eval_example_decimal 2 (pos 0)) (eval_example_decimal 4 (pos 0))) None ≡ Ok
      (plain_number_value (eval_example_quotient (pos 1) 2))
  pub negated_value : value (Negated eval_number_three) None ≡ Ok (plain_number_value (whole_fraction (negsuc 2)))
  pub no_argument : value Argument None ≡ Ok value_one
  pub by_zero : value eval_one_over_zero None ≡ Err (fault.Number DivisionByZero)
  pub from_the_left : value (Chain eval_one_over_zero (Link Multiply (Uncalled (eval_identity_function 0)) NoLink)) None
      ≡ Err (fault.Number DivisionByZero)
  pub no_call : value (Chain eval_number_three (Link Multiply (Uncalled (eval_identity_function 0)) NoLink)) None
      ≡ Err (fault.NeedsArgument (codes "same"))
  pub called_value : value (Applied (eval_identity_function 16) eval_number_three) None ≡ Ok
      (plain_number_value (whole_fraction (pos 3)))
  pub too_deep : value (Applied (eval_identity_function 17) eval_number_three) None ≡ Err
      (fault.CallsTooDeep (codes "same"))
  pub other_name : value (Applied (Alias (codes "other") 1 (eval_identity_function 0)) eval_number_three) None ≡ Ok
      (plain_number_value (whole_fraction (pos 3)))
  pub no_inverse : value (Unapplied (eval_identity_function 0) eval_number_three) None ≡ Err
      (fault.NoInverse (codes "same"))

-- a bound of an interval
abbrev pub argument_bound_at : ℤ → Bool → Bound
argument_bound_at at is_in = record { at = whole_fraction at; closed = is_in }

-- from 0, inclusive, to 1, exclusive
abbrev pub half_open_argument_span : Span
half_open_argument_span =
    record { low = Some (argument_bound_at (pos 0) true); high = Some (argument_bound_at (pos 1) false) }

-- above 0
abbrev pub positive_argument_span : Span
positive_argument_span = record { low = Some (argument_bound_at (pos 0) false); high = None }

-- which numbers are in an interval, and the result for one that is not
pub record ArgumentTestsLaw : Type 0 where
  pub closed_end : is_value_within_span half_open_argument_span (whole_fraction (pos 0)) ≡ true
  pub open_end : is_value_within_span half_open_argument_span (whole_fraction (pos 1)) ≡ false
  pub within_span : is_value_within_span half_open_argument_span (eval_example_quotient (pos 1) 2) ≡ true
  pub below_span : is_value_within_span half_open_argument_span (whole_fraction (negsuc 0)) ≡ false
  pub open_low_end : is_value_within_span positive_argument_span (whole_fraction (pos 0)) ≡ false
  pub no_high_end : is_value_within_span positive_argument_span (whole_fraction (pos 1000)) ≡ true
  pub outside_span : value_inside_span (fault.NotInDomain (codes "f")) None (Some half_open_argument_span) value_one
      ≡ Err (fault.NotInDomain (codes "f"))
  pub any : value_inside_span (fault.NotInDomain (codes "f")) None None value_one ≡ Ok value_one

-- law: the values and the tests are as found by hand
pub record EvalExamplesLaw : Type 0 where
  pub values : ExpressionValuesLaw
  pub tests : ArgumentTestsLaw
