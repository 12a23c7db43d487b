use Rattle.std.proofs.Common.{refl}
use Rattle.frac128.specs.Divisors.{gcd, gcd_within, lcm}
use Rattle.frac128.specs.Steps.{lowest_terms}
use Rattle.piecewise.specs.Lines.{y_on_line_of_points}
use Rattle.piecewise.specs.Points.{points_rise}
use Rattle.piecewise.specs.Tables.{x_at_y_on_points, y_at_x_on_points}
use Rattle.piecewise.proofs.examples.table_examples.Goals as goal

pub returns : goal.returns
unfolding gcd gcd_within lcm lowest_terms y_on_line_of_points points_rise x_at_y_on_points y_at_x_on_points
returns c = record {
  gauge_rises = refl;
  one_point = refl;
  same_x = refl;
  between_points = refl;
  between_back = refl;
  first_end = refl;
  last_end = refl;
  inner_point = refl;
  above_points = refl;
  below_points = refl;
  above_back = refl;
  flat_back = refl;
  falling_back = refl;
  overflows = refl;
}
