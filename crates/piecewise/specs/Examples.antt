-- Some tables and their values.
use Rattle.std.specs.Prelude.{◌≡◌, ◌∷◌, ◌^◌, [], ℕ, List, pos, true, false, Ok, Err}
use Rattle.frac128.specs.Fraction.{Fraction, opposite_fraction, whole_fraction}
use Rattle.frac128.specs.declared.fault.FracFault.TheVariants.{Overflow}
use Rattle.piecewise.specs.Lines.{Point}
use Rattle.piecewise.specs.Points.{is_table_of_points}
use Rattle.piecewise.specs.Tables.{x_at_y_on_points, y_at_x_on_points}
use Rattle.piecewise.specs.declared.fault.TableFault.TheVariants.{OutsideTable, Number}

-- a quotient of two whole numbers in lowest terms
abbrev pub point_quotient : ℕ → ℕ → Fraction
point_quotient n d = record { num = pos n; den = d }

-- the thicknesses of some sheet gauges
abbrev pub gauge_points : List Point
gauge_points =
    (whole_fraction (pos 1), point_quotient 1 500)
    ∷ (whole_fraction (pos 10), point_quotient 1 50)
    ∷ (whole_fraction (pos 15), point_quotient 1 25)
    ∷ (whole_fraction (pos 19), point_quotient 3 50)
    ∷ (whole_fraction (pos 23), point_quotient 1 10)
    ∷ []

-- a table with a flat segment and two that fall
abbrev pub falling_points : List Point
falling_points =
    (whole_fraction (pos 1), whole_fraction (pos 5))
    ∷ (whole_fraction (pos 2), whole_fraction (pos 5))
    ∷ (whole_fraction (pos 3), whole_fraction (pos 4))
    ∷ (whole_fraction (pos 5), opposite_fraction (whole_fraction (pos 4)))
    ∷ []

-- the values of the tables
pub record PointTableExamples : Type 0 where
  pub gauge_rises : is_table_of_points gauge_points ≡ true
  pub one_point : is_table_of_points ((whole_fraction (pos 1), whole_fraction (pos 1)) ∷ []) ≡ false
  pub same_x : is_table_of_points
      ((whole_fraction (pos 1), whole_fraction (pos 1)) ∷ (whole_fraction (pos 1), whole_fraction (pos 2)) ∷ []) ≡ false
  pub between_points : y_at_x_on_points gauge_points (whole_fraction (pos 12)) ≡ Ok (point_quotient 7 250)
  pub between_back : x_at_y_on_points gauge_points (point_quotient 7 250) ≡ Ok (whole_fraction (pos 12))
  pub first_end : y_at_x_on_points gauge_points (whole_fraction (pos 1)) ≡ Ok (point_quotient 1 500)
  pub last_end : y_at_x_on_points gauge_points (whole_fraction (pos 23)) ≡ Ok (point_quotient 1 10)
  pub inner_point : y_at_x_on_points gauge_points (whole_fraction (pos 10)) ≡ Ok (point_quotient 1 50)
  pub above_points : y_at_x_on_points gauge_points (whole_fraction (pos 24)) ≡ Err OutsideTable
  pub below_points : y_at_x_on_points gauge_points (point_quotient 1 2) ≡ Err OutsideTable
  pub above_back : x_at_y_on_points gauge_points (point_quotient 11 100) ≡ Err OutsideTable
  pub flat_back : x_at_y_on_points falling_points (whole_fraction (pos 5)) ≡ Ok (whole_fraction (pos 1))
  pub falling_back : x_at_y_on_points falling_points (point_quotient 9 2) ≡ Ok (point_quotient 5 2)
  pub overflows : y_at_x_on_points
      ((whole_fraction (pos 0), whole_fraction (pos 0)) ∷
      (whole_fraction (pos (2 ^ 126)), whole_fraction (pos (2 ^ 126))) ∷ [])
      (whole_fraction (pos 3)) ≡ Err (Number Overflow)
