-- Splitting a quantity into counts of units.
use Rattle.std.specs.Prelude.{◌<◌, ℕ, not, Bool, List, map, position, Option, Some, None, Result, Ok, Err}
use Rattle.units_io.specs.Outcomes.{GivesIoResult}
use Rattle.frac128.specs.declared.fault.FracFault.{FracFault}
use Rattle.frac128.specs.Fraction.{Fraction}
use Rattle.frac128.specs.Sign.{is_positive_fraction}
use Rattle.quantity.specs.Amount.{Amount, exponents_conform}
use Rattle.unit_list.specs.Splits.{unit_counts_of_number}
use Rattle.unit_list.specs.declared.fault.SplitFault.{SplitFault}
use Rattle.unit_list.specs.declared.fault.SplitFault.TheVariants.{NotConformable, ListUnitNotPositive, Number}
use Rattle.unit_list.specs.declared.fault.SplitFault.TheVariants.{OutOfMemory}
use Rattle.unit_list.specs.declared.counts.Split.{Split}

-- the exponents of the unit differ from those of the quantity
abbrev pub is_unlike_unit : Amount → Amount → Bool
is_unlike_unit q unit = not (exponents_conform q.exponents unit.exponents)

-- the number of the unit is 0 or below
abbrev pub is_unit_not_positive : Amount → Bool
is_unit_not_positive unit = not (is_positive_fraction unit.value)

-- the fault of the first unlike unit or, if there is none, of the first unit that is not positive
abbrev pub unit_place_fault : Option ℕ → Option ℕ → Option SplitFault
unit_place_fault (Some place) not_positive = Some (NotConformable place)
unit_place_fault None (Some place) = Some (ListUnitNotPositive place)
unit_place_fault None None = None

-- the fault of the units of a quantity, if they have one
abbrev pub unit_list_fault : Amount → List Amount → Option SplitFault
unit_list_fault q units = unit_place_fault (position (is_unlike_unit q) units) (position is_unit_not_positive units)

-- the counts, or the fault of an operation
abbrev pub unit_counts_or_fault : Result (List Fraction) FracFault → Result (List Fraction) SplitFault
unit_counts_or_fault (Ok counts) = Ok counts
unit_counts_or_fault (Err fault) = Err (Number fault)

-- the fault of the units or, if they have none, the counts or the fault of an operation
abbrev pub unit_fault_or_counts : Option SplitFault → Result (List Fraction) FracFault
    → Result (List Fraction) SplitFault
unit_fault_or_counts (Some fault) counts = Err fault
unit_fault_or_counts None counts = unit_counts_or_fault counts

-- the number of a unit
abbrev pub number_of_unit : Amount → Fraction
number_of_unit unit = unit.value

-- the numbers of some units
abbrev pub numbers_of_units : List Amount → List Fraction
numbers_of_units units = map number_of_unit units

-- the counts of the units in a quantity, or the fault
unfoldable pub unit_counts_in : Bool → Amount → List Amount → Result (List Fraction) SplitFault
unit_counts_in round q units = unit_fault_or_counts (unit_list_fault q units)
    (unit_counts_of_number round q.value (numbers_of_units units))

-- the answer has the expected counts or the expected fault, or is an out-of-memory fault
abbrev pub IsSplit : Result Split SplitFault → Result (List Fraction) SplitFault → Type 0
IsSplit answer expected = GivesIoResult OutOfMemory (λ split. split.counts) answer expected

-- the answer is the expected counts or the expected fault, or an out-of-memory fault
abbrev pub AreGivenCounts : Result (List Fraction) SplitFault → Result (List Fraction) FracFault → Type 0
AreGivenCounts answer expected = GivesIoResult OutOfMemory (λ counts. counts) answer (unit_counts_or_fault expected)

-- the denominator of the number of a unit is above 0
abbrev pub HasUnitDenominator : Amount → Type 0
HasUnitDenominator unit = 0 < unit.value.den
