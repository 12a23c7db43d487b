-- The properties of the counts of a split: they add up, have the sign of the number, and each count but the last is
-- the greatest possible.
use Rattle.std.specs.Prelude.{◌≡◌, ◌<◌, ◌*◌, ◌+ℤ◌, ◌<ℤ◌, pos, unsigned_abs, Bool, true, false, List, ◌∷◌, length, map}
use Rattle.std.specs.Prelude.{All, Ok}
use Rattle.frac128.specs.Exact.{exact_fraction_difference, exact_fraction_product, exact_fraction_sum}
use Rattle.frac128.specs.Fraction.{AreEquivalentFractions, Fraction, IsReducedFraction, whole_fraction}
use Rattle.frac128.specs.Order.{IsFractionAtMost, IsLessFraction}
use Rattle.frac128.specs.Sign.{fraction_magnitude, fraction_negated_if, is_negative_fraction}
use Rattle.frac128.specs.Steps.{lowest_terms}
use Rattle.unit_list.specs.Splits.{last_of_units, nearest_unit_count, unit_counts_of_number}

-- the number of a unit, which is above 0
pub record IsUnitNumber (unit : Fraction) : Type 0 where
  pub denominator : 0 < unit.den
  pub unit_positive : pos 0 <ℤ unit.num

-- the sum of the products of counts and units
abbrev pub total_of_unit_counts : List Fraction → List Fraction → Fraction
total_of_unit_counts (count ∷ counts) (unit ∷ units) = exact_fraction_sum (exact_fraction_product count unit)
    (total_of_unit_counts counts units)
total_of_unit_counts _ _ = whole_fraction (pos 0)

-- the count is the greatest whole number whose product with the unit leaves a remainder of x that is at least 0
pub record IsGreatestUnitCount (x unit count : Fraction) : Type 0 where
  pub is_whole : count ≡ whole_fraction count.num
  pub is_at_most : IsFractionAtMost (exact_fraction_product count unit) x
  pub next_is_more : IsLessFraction x (exact_fraction_product (whole_fraction (count.num +ℤ pos 1)) unit)

-- each count but the last is the greatest possible in what the earlier counts leave of x
abbrev pub AreGreatestUnitCounts : Fraction → List Fraction → List Fraction → Type 0
AreGreatestUnitCounts x (unit ∷ next ∷ units) (count ∷ counts) =
    IsGreatestUnitCount x unit count × AreGreatestUnitCounts
    (exact_fraction_difference x (exact_fraction_product count unit)) (next ∷ units) counts
AreGreatestUnitCounts x _ counts = Unit {0}

-- the quotient of the magnitudes of two fractions, in lowest terms
abbrev pub count_magnitude_quotient : Fraction → Fraction → Fraction
count_magnitude_quotient x y = lowest_terms (pos (unsigned_abs x.num * y.den)) (x.den * unsigned_abs y.num)

-- x or, if rounding is requested, the nearest whole multiple of the unit, with the sign of x
abbrev pub split_number : Bool → Fraction → Fraction → Fraction
split_number false unit x = x
split_number true unit x =
    fraction_negated_if (is_negative_fraction x)
    (exact_fraction_product (whole_fraction (pos (nearest_unit_count (count_magnitude_quotient x unit)))) unit)

-- the counts are those of a split of x, or of x rounded
pub record IsSplitIntoUnits (round : Bool) (x : Fraction) (units counts : List Fraction) : Type 0 where
  pub one_each : length counts ≡ length units
  pub sum : AreEquivalentFractions (total_of_unit_counts counts units) (split_number round (last_of_units units) x)
  pub greatest : AreGreatestUnitCounts (fraction_magnitude (split_number round (last_of_units units) x)) units
      (map fraction_magnitude counts)
  pub signs : counts ≡ map (fraction_negated_if (is_negative_fraction x)) (map fraction_magnitude counts)
  pub lowest : All IsReducedFraction counts

-- law: if splitting a number into some units succeeds, the resulting counts are those of a split of it
abbrev pub UnitSplitLaw : Type 0
UnitSplitLaw = (round : Bool) (x : Fraction) (units counts : List Fraction) → 0 < x.den
    → 0 < length units → All IsUnitNumber units → unit_counts_of_number round x units ≡ Ok counts
    → IsSplitIntoUnits round x units counts

-- law: the counts of a split are unique
abbrev pub UniqueSplitLaw : Type 0
UniqueSplitLaw = (round : Bool) (x : Fraction) (units counts others : List Fraction) → 0 < x.den
    → 0 < length units → All IsUnitNumber units → IsSplitIntoUnits round x units counts
    → IsSplitIntoUnits round x units others
    → counts ≡ others
