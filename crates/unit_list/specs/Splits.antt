-- Splitting a number into counts of units, by operations on fractions.
use Rattle.std.specs.Prelude.{ℕ, pos, unsigned_abs, Bool, true, false, List, [], ◌∷◌, map, Result, Ok}
use Rattle.frac128.specs.declared.fault.FracFault.{FracFault}
use Rattle.frac128.specs.Floor.{fraction_floor}
use Rattle.frac128.specs.Fraction.{Fraction, whole_fraction}
use Rattle.frac128.specs.Nearest.{fraction_nearest_whole}
use Rattle.frac128.specs.Sign.{fraction_magnitude, fraction_negated_if, is_negative_fraction}
use Rattle.frac128.specs.Steps.{◌>>=◌, fraction_product, fraction_quotient}
use Rattle.frac128.specs.Sums.{fraction_difference}
use Rattle.unit_list.specs.declared.part.Part.{Part}

-- the greatest whole count of a unit in x, and the remainder of x
abbrev pub part_by_unit : Fraction → Fraction → Result Part FracFault
part_by_unit x unit = do
  quotient ← fraction_quotient x unit
  taken ← fraction_product (fraction_floor quotient) unit
  rest ← fraction_difference x taken
  Ok (record { count = fraction_floor quotient; rest = rest })

-- the counts of the units in x: for each unit but the last the greatest whole number of it in what the earlier units
-- leave, and for the last one the remainder
unfoldable pub counts_of_units : Fraction → List Fraction → Result (List Fraction) FracFault
counts_of_units x [] = Ok []
counts_of_units x (unit ∷ []) = do
  count ← fraction_quotient x unit
  Ok (count ∷ [])
counts_of_units x (unit ∷ next ∷ units) = do
  part ← part_by_unit x unit
  counts ← counts_of_units part.rest (next ∷ units)
  Ok (part.count ∷ counts)

-- the whole number nearest to the magnitude of a fraction
abbrev pub nearest_unit_count : Fraction → ℕ
nearest_unit_count x = fraction_nearest_whole (unsigned_abs x.num) x.den

-- the whole multiple of the unit that is nearest to x
abbrev pub rounded_to_unit : Fraction → Fraction → Result Fraction FracFault
rounded_to_unit unit x = do
  quotient ← fraction_quotient x unit
  fraction_product (whole_fraction (pos (nearest_unit_count quotient))) unit

-- the last unit
unfoldable pub last_of_units : List Fraction → Fraction
last_of_units [] = whole_fraction (pos 0)
last_of_units (unit ∷ []) = unit
last_of_units (unit ∷ next ∷ units) = last_of_units (next ∷ units)

-- x or, if rounding is requested, the nearest whole multiple of the unit
abbrev pub rounded_to_unit_if : Bool → Fraction → Fraction → Result Fraction FracFault
rounded_to_unit_if false unit x = Ok x
rounded_to_unit_if true unit x = rounded_to_unit unit x

-- the counts with the sign of the number
abbrev pub signed_unit_counts : Bool → Result (List Fraction) FracFault → Result (List Fraction) FracFault
signed_unit_counts negative counts = do
  plain ← counts
  Ok (map (fraction_negated_if negative) plain)

-- the counts of the units in a number: those in its magnitude, which is rounded to the last unit if requested, with
-- the sign of the number
abbrev pub unit_counts_of_number : Bool → Fraction → List Fraction → Result (List Fraction) FracFault
unit_counts_of_number round x units = do
  amount ← rounded_to_unit_if round (last_of_units units) (fraction_magnitude x)
  signed_unit_counts (is_negative_fraction x) (counts_of_units amount units)
