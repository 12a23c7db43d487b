-- Powers of some numbers and texts of some names with exponents, found by hand.
use Rattle.std.specs.Prelude.{◌≡◌, ◌∷◌, [], ℕ, ℤ, pos, negsuc, false, List, Ok, Err, codes}
use Rattle.frac128.specs.Fraction.{Fraction, whole_fraction}
use Rattle.frac128.specs.declared.fault.FracFault.TheVariants.{DivisionByZero, NoExactRoot}
use Rattle.quantity.specs.Degrees.{is_power_degree}
use Rattle.quantity.specs.Powers.{quantity_number_power}
use Rattle.quantity.specs.Text.{listed_powers_text}

-- a quotient in lowest terms
abbrev pub quantity_example_quotient : ℤ → ℕ → Fraction
quantity_example_quotient n d = record { num = n; den = d }

-- a name with its exponent
abbrev pub unit_power : List ℕ → Fraction → List ℕ × Fraction
unit_power name e = (name, e)

-- some numbers raised to fractions: the power of a root, or no result
pub record QuantityPowersLaw : Type 0 where
  pub root : quantity_number_power (quantity_example_quotient (pos 4) 9) (quantity_example_quotient (pos 1) 2) ≡ Ok
      (quantity_example_quotient (pos 2) 3)
  pub negative_power : quantity_number_power (quantity_example_quotient (pos 8) 27)
      (quantity_example_quotient (negsuc 1) 3) ≡ Ok (quantity_example_quotient (pos 9) 4)
  pub odd_root : quantity_number_power (whole_fraction (negsuc 7)) (quantity_example_quotient (pos 2) 3) ≡ Ok
      (whole_fraction (pos 4))
  pub no_power : quantity_number_power (whole_fraction (pos 7)) (whole_fraction (pos 0)) ≡ Ok (whole_fraction (pos 1))
  pub no_root : quantity_number_power (whole_fraction (pos 2)) (quantity_example_quotient (pos 1) 2) ≡ Err NoExactRoot
  pub below_zero : quantity_number_power (whole_fraction (negsuc 3)) (quantity_example_quotient (pos 1) 2) ≡ Err
      NoExactRoot
  pub zero_to_negative : quantity_number_power (whole_fraction (pos 0)) (whole_fraction (negsuc 0)) ≡ Err DivisionByZero
  pub out_of_range : is_power_degree (whole_fraction (pos 32768)) ≡ false

-- the texts of some names with exponents
pub record QuantityTextsLaw : Type 0 where
  pub no_units : listed_powers_text [] ≡ []
  pub whole_powers : listed_powers_text
      (unit_power (codes "kg") (whole_fraction (pos 1)) ∷ unit_power (codes "m") (whole_fraction (pos 2)) ∷ [])
      ≡ codes " kg m^2"
  pub under : listed_powers_text
      (unit_power (codes "m") (whole_fraction (pos 1)) ∷ unit_power (codes "s") (whole_fraction (negsuc 1)) ∷ [])
      ≡ codes " m / s^2"
  pub only_under : listed_powers_text (unit_power (codes "s") (whole_fraction (negsuc 0)) ∷ []) ≡ codes " / s"
  pub root : listed_powers_text (unit_power (codes "V") (quantity_example_quotient (pos 3) 2) ∷ []) ≡ codes " V^3|2"

-- law: the powers and the texts are those found by hand
pub record QuantityExamplesLaw : Type 0 where
  pub powers : QuantityPowersLaw
  pub text_examples : QuantityTextsLaw
