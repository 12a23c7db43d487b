-- Straight lines through two points, computed by operations on fractions.
use Rattle.std.specs.Prelude.{Result}
use Rattle.frac128.specs.declared.fault.FracFault.{FracFault}
use Rattle.frac128.specs.Fraction.{Fraction}
use Rattle.frac128.specs.Steps.{◌>>=◌, fraction_product, fraction_quotient}
use Rattle.frac128.specs.Sums.{fraction_difference, fraction_sum}

-- a point, by its x and its y
abbrev pub Point : Type 0
Point = Fraction × Fraction

-- the y at x on the line through p and q: p.1 + (q.1 - p.1) * (x - p.0) / (q.0 - p.0)
unfoldable pub y_on_line_of_points : Point → Point → Fraction → Result Fraction FracFault
y_on_line_of_points p q x = do
  rise ← fraction_difference q.1 p.1
  run ← fraction_difference x p.0
  product ← fraction_product rise run
  width ← fraction_difference q.0 p.0
  part ← fraction_quotient product width
  fraction_sum p.1 part

-- the point with x and y exchanged
abbrev pub swapped_point : Point → Point
swapped_point p = (p.1, p.0)
