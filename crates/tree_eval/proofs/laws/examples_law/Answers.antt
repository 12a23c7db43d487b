use Rattle.std.proofs.Common.{refl}
use Rattle.frac128.specs.Divisors.{gcd, gcd_within}
use Rattle.frac128.specs.Steps.{lowest_terms}
use Rattle.tree_eval.specs.Examples.{ArgumentTestsLaw, ExpressionValuesLaw}
use Rattle.tree_eval.proofs.laws.examples_law.Goals as goal

values : ExpressionValuesLaw
unfolding gcd gcd_within lowest_terms
values = record {
  decimals = refl;
  quotients = refl;
  negated_value = refl;
  no_argument = refl;
  by_zero = refl;
  from_the_left = refl;
  no_call = refl;
  called_value = refl;
  too_deep = refl;
  other_name = refl;
  no_inverse = refl;
}

tests : ArgumentTestsLaw
tests = record {
  closed_end = refl;
  open_end = refl;
  within_span = refl;
  below_span = refl;
  open_low_end = refl;
  no_high_end = refl;
  outside_span = refl;
  any = refl;
}

pub returns : goal.returns
returns c = record { values = values; tests = tests }
