-- A quantity: a number, and the exponents of the names in which it is measured.
use Rattle.std.specs.Prelude.{◌≡◌, ◌==◌, ◌&&◌, ◌↔◌, ℕ, List, Bool, IsTrue, refl, nat_eq}
use Rattle.std.specs.Cmp.Lexicographic.{pointwise}
use Rattle.std.specs.Coded.{Coded, code_by, coded×, coded_list, coded_ℕ, coded_ℤ}
use Rattle.std.specs.FinMap as map_of
use Rattle.std.specs.Ordering.{int_eq}
use Rattle.frac128.specs.Fraction.{Fraction, opposite_fraction}
use Rattle.quantity.specs.Exponents.{AreExponents, Exponents, exponent_of}

-- a number with exponents
pub record Amount : Type 0 where
  pub value : Fraction
  pub exponents : Exponents

abbrev pub quantity_fraction_code : Coded Fraction
quantity_fraction_code = code_by _ (coded× coded_ℤ coded_ℕ) (λ x. (x.num, x.den)) (λ p. record { num = p.0; den = p.1 })
    (λ _. refl)

abbrev pub unit_power_code : Coded (List ℕ × Fraction)
unit_power_code = coded× (coded_list coded_ℕ) quantity_fraction_code

abbrev pub exponents_code : Coded Exponents
exponents_code = map_of.code (coded_list coded_ℕ) quantity_fraction_code

abbrev pub quantity_code : Coded Amount
quantity_code = code_by _ (coded× quantity_fraction_code exponents_code) (λ x. (x.value, x.exponents))
    (λ p. record { value = p.0; exponents = p.1 }) (λ _. refl)

-- no name has an exponent
abbrev pub has_no_exponents : Amount → Bool
has_no_exponents x = map_of.len x.exponents == 0

-- two fractions are equal
abbrev pub are_equal_exponents : Fraction → Fraction → Bool
are_equal_exponents x y = int_eq x.num y.num && x.den == y.den

-- two lists have the same names in the same order, and each exponent is the result of the step on the other one
abbrev pub powers_match : (Fraction → Fraction) → List (List ℕ × Fraction) → List (List ℕ × Fraction) → Bool
powers_match step = pointwise (λ e d. pointwise nat_eq e.0 d.0 && are_equal_exponents e.1 (step d.1))

-- two maps are equal
abbrev pub exponents_conform : Exponents → Exponents → Bool
exponents_conform p o = powers_match (λ e. e) (map_of.entries p) (map_of.entries o)

-- each exponent of one map is the negative of the exponent in the other
abbrev pub are_reciprocal_exponents : Exponents → Exponents → Bool
are_reciprocal_exponents p o = powers_match opposite_fraction (map_of.entries p) (map_of.entries o)

-- law: two maps of the program conform if and only if each name has the same exponent in both, and they are reciprocal
-- if and only if the exponents of each name differ exactly in sign
pub record AreComparedExponents (p o : Exponents) : Type 0 where
  pub conforms_iff : IsTrue (exponents_conform p o) ↔ ((name : List ℕ) → exponent_of p name ≡ exponent_of o name)
  pub reciprocal : IsTrue (are_reciprocal_exponents p o) ↔
      ((name : List ℕ) → exponent_of p name ≡ opposite_fraction (exponent_of o name))

abbrev pub ConformingExponentsLaw : Type 0
ConformingExponentsLaw = (p o : Exponents) → AreExponents p → AreExponents o → AreComparedExponents p o
