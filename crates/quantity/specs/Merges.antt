-- Lists of names with exponents, in the byte order of the names.
use Rattle.std.specs.Prelude.{◌≡◌, ◌++◌, ℕ, List, [], ◌∷◌, All, Bool, IsTrue, IsFalse, T, ⊤, map, Option, Some, None}
use Rattle.std.specs.Prelude.{Result, Ok, Err, if◌then◌else◌}
use Rattle.std.specs.Cmp.Lexicographic.{slice_cmp}
use Rattle.std.specs.FinMap as map_of
use Rattle.std.specs.List.{list_all}
use Rattle.std.specs.Ordering.{match_ordering, nat_cmp}
use Rattle.frac128.specs.Fraction.{Fraction}
use Rattle.frac128.specs.Sign.{is_zero_fraction}
use Rattle.quantity.specs.Exponents.{Exponents, IsUnitPower, exponent_product, exponent_sum, is_exponent}
use Rattle.quantity.specs.declared.fault.ExponentFault.{ExponentFault}
use Rattle.quantity.specs.declared.fault.ExponentFault.TheVariants.{Range, OutOfMemory}

abbrev pub UnitPowers : Type 0
UnitPowers = List (List ℕ × Fraction)

-- the names strictly increase, and each has an exponent
pub record ArePowersInOrder (powers : UnitPowers) : Type 0 where
  pub sorted_powers : T (map_of.is_sorted (slice_cmp nat_cmp) powers)
  pub powers_right : All IsUnitPower powers

-- the map of an ordered list
abbrev pub exponents_in : UnitPowers → Exponents
exponents_in powers = map_of.from_sorted powers

-- a power of the second list, with its exponent changed by the step
abbrev pub unit_power_by : (Fraction → Fraction) → List ℕ × Fraction → List ℕ × Fraction
unit_power_by step power = (power.0, step power.1)

-- a list with a power in front, unless its exponent is 0
abbrev pub put_nonzero_power : List ℕ × Fraction → UnitPowers → UnitPowers
put_nonzero_power power powers = if is_zero_fraction power.1 then powers else power ∷ powers

-- a power of the first list and the rest of that list, merged with the second list
abbrev pub power_merged_into : (Fraction → Fraction) → List ℕ × Fraction → (UnitPowers → UnitPowers) → UnitPowers
    → UnitPowers
power_merged_into step p rest [] = p ∷ rest []
power_merged_into step p rest (o ∷ os) =
    match_ordering (slice_cmp nat_cmp p.0 o.0)
    (p ∷ rest (o ∷ os))
    (put_nonzero_power (p.0, exponent_sum p.1 (step o.1)) (rest os))
    (unit_power_by step o ∷ power_merged_into step p rest os)

-- two ordered lists as one: the exponents of a name in both lists are added, and names whose exponents cancel are
-- dropped
abbrev pub merge_of_powers : (Fraction → Fraction) → UnitPowers → UnitPowers → UnitPowers
merge_of_powers step [] os = map (unit_power_by step) os
merge_of_powers step (p ∷ ps) os = power_merged_into step p (merge_of_powers step ps) os

-- a reduced fraction as an exponent, if it is one
abbrev pub as_exponent : Fraction → Option Fraction
as_exponent e = if is_exponent e then Some e else None

-- the powers with each exponent multiplied, without those that become 0
abbrev pub scaled_powers : Fraction → UnitPowers → UnitPowers
scaled_powers by [] = []
scaled_powers by (p ∷ ps) = put_nonzero_power (p.0, exponent_product p.1 by) (scaled_powers by ps)

-- the exponent of each power is in range
abbrev pub are_exponents : UnitPowers → Bool
are_exponents = list_all (λ power. is_exponent power.1)

-- the reason why there are no such powers: an exponent is out of range, or memory ran out
abbrev pub IsPowersFault : ExponentFault → UnitPowers → Type 0
IsPowersFault OutOfMemory expected = ⊤
IsPowersFault Range expected = IsFalse (are_exponents expected)

-- the answer has these powers, all with exponents in range, or a fault says why not
abbrev pub ArePowers : {A : Type 0} → (A → UnitPowers) → Result A ExponentFault → UnitPowers → Type 0
ArePowers powers_of (Ok answer) expected = (powers_of answer ≡ expected) × IsTrue (are_exponents expected)
ArePowers powers_of (Err fault) expected = IsPowersFault fault expected

-- the power is appended unless its exponent is 0; otherwise its exponent is out of range, or memory ran out
abbrev pub IsPowerPut : Result (Unit {0}) ExponentFault → UnitPowers → UnitPowers → List ℕ × Fraction → Type 0
IsPowerPut (Ok _) old new power = (new ≡ old ++ put_nonzero_power power []) × IsTrue (is_exponent power.1)
IsPowerPut (Err OutOfMemory) old new power = ⊤
IsPowerPut (Err Range) old new power = IsFalse (is_exponent power.1)
