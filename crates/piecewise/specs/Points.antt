-- Lists of points that form a table.
use Rattle.std.specs.Prelude.{◌≡◌, ◌<◌, ◌&&◌, Bool, true, IsTrue, IsFalse, nat_le, List, ◌∷◌, length, All}
use Rattle.std.specs.Prelude.{Result, Ok, Err}
use Rattle.std.specs.Ordering.{is_lt}
use Rattle.frac128.specs.Order.{fraction_order}
use Rattle.piecewise.specs.Lines.{Point}
use Rattle.piecewise.specs.declared.fault.PointsFault.{PointsFault}
use Rattle.piecewise.specs.declared.fault.PointsFault.TheVariants.{BadPoints, OutOfMemory}

-- each x is less than the next one
unfoldable pub points_rise : List Point → Bool
points_rise (p ∷ q ∷ points) = is_lt (fraction_order p.0 q.0) && points_rise (q ∷ points)
points_rise _ = true

-- from 2 to 1,000 points with strictly increasing x
abbrev pub is_table_of_points : List Point → Bool
is_table_of_points points = nat_le 2 (length points) && nat_le (length points) 1000 && points_rise points

-- the facts known about the points of each table of the program
pub record ArePoints (points : List Point) : Type 0 where
  pub table : IsTrue (is_table_of_points points)
  pub denominators : All (λ p. 0 < p.0.den) points

-- the result of making a table from a list of points
abbrev pub IsPointsResult : List Point → Result (List Point) PointsFault → Type 0
IsPointsResult points (Ok made) = IsTrue (is_table_of_points points) × (made ≡ points)
IsPointsResult points (Err BadPoints) = IsFalse (is_table_of_points points)
IsPointsResult points (Err OutOfMemory) = IsTrue (is_table_of_points points)
