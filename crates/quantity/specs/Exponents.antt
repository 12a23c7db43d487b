-- Exponents of names: a finite map from the bytes of a name to a reduced fraction other than 0.
use Rattle.std.specs.Prelude.{◌≡◌, ◌≤◌, ◌&&◌, ◌++◌, ℕ, List, Bool, IsFalse, All, map, not, pos, unsigned_abs, nat_le}
use Rattle.std.specs.Prelude.{unwrap_or}
use Rattle.std.specs.Cmp.Lexicographic.{slice_cmp}
use Rattle.std.specs.FinMap as map_of
use Rattle.std.specs.List.{filter}
use Rattle.std.specs.Ordering.{nat_cmp}
use Rattle.frac128.specs.Exact.{exact_fraction_product, exact_fraction_sum}
use Rattle.frac128.specs.Fraction.{Fraction, IsReducedFraction, opposite_fraction, whole_fraction}
use Rattle.frac128.specs.Sign.{is_zero_fraction}
use Rattle.frac128.specs.Steps.{lowest_terms}

-- a reduced fraction with a numerator in -32,767..32,767 and a denominator of at most 60
pub record IsExponent (e : Fraction) : Type 0 where
  pub exponent_reduced : IsReducedFraction e
  pub num_fits : unsigned_abs e.num ≤ 32767
  pub den_fits : e.den ≤ 60

-- a reduced fraction is an exponent
abbrev pub is_exponent : Fraction → Bool
is_exponent e = nat_le (unsigned_abs e.num) 32767 && nat_le e.den 60

-- the exponents of names, in the byte order of the names
abbrev pub Exponents : Type 0
Exponents = map_of.FinMap (slice_cmp nat_cmp) Fraction

-- the facts known about a name with its exponent in the program
pub record IsUnitPower (power : List ℕ × Fraction) : Type 0 where
  pub exponent : IsExponent power.1
  pub not_zero : IsFalse (is_zero_fraction power.1)

-- the facts known about all exponents in the program
abbrev pub AreExponents : Exponents → Type 0
AreExponents exponents = All IsUnitPower (map_of.entries exponents)

-- the exponent of a name, or 0 if it is absent
abbrev pub exponent_of : Exponents → List ℕ → Fraction
exponent_of exponents name = unwrap_or (map_of.get exponents name) (whole_fraction (pos 0))

-- the names in either of two maps
abbrev pub names_of_both_exponents : Exponents → Exponents → List (List ℕ)
names_of_both_exponents p o = map_of.keys p ++ map_of.keys o

-- the exponents that f gives to these names, without those that are 0
unfoldable pub exponents_by : (List ℕ → Fraction) → List (List ℕ) → Exponents
exponents_by f names =
    map_of.from_entries (filter (λ power. not (is_zero_fraction power.1)) (map (λ name. (name, f name)) names))

-- a fraction in lowest terms
abbrev pub lowest_exponent : Fraction → Fraction
lowest_exponent x = lowest_terms x.num x.den

-- the sum of two exponents in lowest terms
abbrev pub exponent_sum : Fraction → Fraction → Fraction
exponent_sum a b = lowest_exponent (exact_fraction_sum a b)

-- the difference of two exponents in lowest terms
abbrev pub exponent_difference : Fraction → Fraction → Fraction
exponent_difference a b = exponent_sum a (opposite_fraction b)

-- an exponent times a fraction, in lowest terms
abbrev pub exponent_product : Fraction → Fraction → Fraction
exponent_product e by = lowest_exponent (exact_fraction_product e by)

-- law: maps of the program that give the same exponent to each name are equal
abbrev pub SameExponentsLaw : Type 0
SameExponentsLaw = (p o : Exponents) → AreExponents p → AreExponents o
    → ((name : List ℕ) → exponent_of p name ≡ exponent_of o name) → p ≡ o
