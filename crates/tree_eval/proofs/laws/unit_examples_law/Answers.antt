use Rattle.std.proofs.Common.{refl}
use Rattle.frac128.specs.Divisors.{gcd, gcd_within, lcm}
use Rattle.frac128.specs.Roots.{fraction_root}
use Rattle.frac128.specs.Steps.{lowest_terms}
use Rattle.piecewise.specs.Lines.{y_on_line_of_points}
use Rattle.piecewise.specs.Tables.{x_at_y_on_points, y_at_x_on_points}
use Rattle.tree_eval.specs.UnitExamples.{ArgumentLaw, FunctionInverseLaw, TableValuesLaw, UnitValuesLaw}
use Rattle.tree_eval.proofs.UnitMaps.{eval_m_like_m, eval_m_over_m, eval_m_squared, eval_m_unlike_number}
use Rattle.tree_eval.proofs.UnitMaps.{eval_m_unlike_s, eval_no_units_len, eval_one_unit_len, m, eval_number_over_s}
use Rattle.tree_eval.proofs.UnitMaps.{eval_number_times_m, eval_number_unlike_m, eval_root_of_m, eval_s_unlike_m, one}
use Rattle.tree_eval.proofs.laws.unit_examples_law.Goals as goal

units : UnitValuesLaw
unfolding gcd gcd_within lcm lowest_terms fraction_root
units = record {
  multiple = rw eval_number_times_m;
  with_a_prefix = rw eval_number_times_m;
  ratio_of_like_units = rw eval_m_over_m;
  reciprocal = rw eval_number_over_s;
  square = rw (eval_no_units_len, eval_m_squared);
  square_root = rw (eval_no_units_len, eval_root_of_m);
  sum = rw eval_m_like_m;
  difference = rw eval_m_like_m;
  unlike_sum = rw eval_m_unlike_s;
  unlike_difference = rw eval_s_unlike_m;
  sum_with_a_number = rw eval_m_unlike_number;
  exponent_with_a_unit = rw (eval_one_unit_len m one);
  exponent_out_of_range = rw eval_no_units_len;
  no_exact_root = rw eval_no_units_len;
}

arguments : ArgumentLaw
unfolding gcd gcd_within lcm lowest_terms
arguments = record {
  in_unit = rw eval_m_like_m;
  wrong_argument = rw eval_s_unlike_m;
  number_for_a_unit = rw eval_number_unlike_m;
  wrong_result = rw eval_s_unlike_m;
  unit_for_a_number = rw (eval_one_unit_len m one);
  not_in_domain = rw eval_m_like_m;
  domain_in_units = rw (eval_number_times_m, eval_m_like_m);
  not_in_range = rw eval_m_like_m;
  range_in_units = rw (eval_number_times_m, eval_m_like_m);
  unit_before_domain = rw eval_s_unlike_m;
  unit_before_range = rw eval_s_unlike_m;
  argument_before_value = rw eval_s_unlike_m;
  value_before_result = refl;
}

inverses : FunctionInverseLaw
unfolding gcd gcd_within lcm lowest_terms
inverses = record {
  forward = refl;
  backward = refl;
  backward_by_alias = refl;
  wrong_argument = rw eval_s_unlike_m;
  wrong_result = rw eval_s_unlike_m;
  not_in_range = rw eval_no_units_len;
  not_in_domain = rw eval_no_units_len;
  too_deep = refl;
  not_too_deep = refl;
  too_deep_alias = refl;
}

tables : TableValuesLaw
unfolding gcd gcd_within lcm lowest_terms y_on_line_of_points x_at_y_on_points y_at_x_on_points
tables = record {
  forward = rw (eval_no_units_len, eval_number_times_m);
  backward = rw eval_m_like_m;
  above_table = rw eval_no_units_len;
  below_table = rw eval_no_units_len;
  wrong_argument = rw (eval_one_unit_len m one);
  wrong_value = rw eval_s_unlike_m;
  number_for_a_unit = rw eval_number_unlike_m;
  too_deep = refl;
  backward_too_deep = refl;
}

pub returns : goal.returns
returns c = record { units = units; arguments = arguments; inverse_examples = inverses; tables = tables }
