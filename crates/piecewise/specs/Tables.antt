-- Reading a table of points in both directions.
use Rattle.std.specs.Prelude.{◌&&◌, ◌||◌, Bool, true, false, List, [], ◌∷◌, Option, Some, None, Result, Ok, Err, find}
use Rattle.std.specs.Prelude.{if◌then◌else◌}
use Rattle.std.specs.declared.cmp.Ordering.{Ordering}
use Rattle.std.specs.declared.cmp.Ordering.TheVariants.{Less, Greater}
use Rattle.std.specs.Ordering.{is_eq, is_le}
use Rattle.frac128.specs.declared.fault.FracFault.{FracFault}
use Rattle.frac128.specs.Fraction.{Fraction}
use Rattle.frac128.specs.Order.{fraction_order}
use Rattle.piecewise.specs.Lines.{Point, swapped_point, y_on_line_of_points}
use Rattle.piecewise.specs.declared.fault.TableFault.{TableFault}
use Rattle.piecewise.specs.declared.fault.TableFault.TheVariants.{OutsideTable, Number}

-- a segment: two neighbouring points
pub record PointSegment : Type 0 where
  pub left_end : Point
  pub right_end : Point

-- the segments of a table, from left to right
abbrev pub segments_of_points : List Point → List PointSegment
segments_of_points (p ∷ q ∷ points) = record { left_end = p; right_end = q } ∷ segments_of_points (q ∷ points)
segments_of_points _ = []

-- a is between low and high, inclusive
abbrev pub is_coordinate_between : Fraction → Fraction → Fraction → Bool
is_coordinate_between low high a = is_le (fraction_order low a) && is_le (fraction_order a high)

-- x is between the two x of the segment, inclusive
abbrev pub point_segment_holds_x : Fraction → PointSegment → Bool
point_segment_holds_x x s = is_coordinate_between s.left_end.0 s.right_end.0 x

-- y is between the two y of the segment, inclusive, whichever of them is greater
abbrev pub point_segment_holds_y : Fraction → PointSegment → Bool
point_segment_holds_y y s = is_coordinate_between s.left_end.1 s.right_end.1 y || is_coordinate_between s.right_end.1
    s.left_end.1 y

-- two numbers are on opposite sides of a third, or one of them equals it, given how they compare with it
abbrev pub are_coordinates_around : Ordering → Ordering → Bool
are_coordinates_around Less Less = false
are_coordinates_around Greater Greater = false
are_coordinates_around _ _ = true

-- the y at x on the segment
abbrev pub y_on_point_segment : Fraction → PointSegment → Result Fraction FracFault
y_on_point_segment x s = y_on_line_of_points s.left_end s.right_end x

-- the x at y on the segment, or the x of its left end if the segment is flat
abbrev pub x_on_point_segment : Fraction → PointSegment → Result Fraction FracFault
x_on_point_segment y s =
    if is_eq (fraction_order s.left_end.1 s.right_end.1)
    then Ok s.left_end.0
    else y_on_line_of_points (swapped_point s.left_end) (swapped_point s.right_end) y

-- the number, or the fault of the operation that failed
abbrev pub point_table_number_or_fault : Result Fraction FracFault → Result Fraction TableFault
point_table_number_or_fault (Ok x) = Ok x
point_table_number_or_fault (Err fault) = Err (Number fault)

-- the value on the segment, or `OutsideTable` if there is no segment
abbrev pub value_on_point_segment : (PointSegment → Result Fraction FracFault) → Option PointSegment
    → Result Fraction TableFault
value_on_point_segment value None = Err OutsideTable
value_on_point_segment value (Some s) = point_table_number_or_fault (value s)

-- the y at x, on the first segment that contains x
unfoldable pub y_at_x_on_points : List Point → Fraction → Result Fraction TableFault
y_at_x_on_points points x = value_on_point_segment (y_on_point_segment x)
    (find (point_segment_holds_x x) (segments_of_points points))

-- the x at y, on the first segment that contains y
unfoldable pub x_at_y_on_points : List Point → Fraction → Result Fraction TableFault
x_at_y_on_points points y = value_on_point_segment (x_on_point_segment y)
    (find (point_segment_holds_y y) (segments_of_points points))
