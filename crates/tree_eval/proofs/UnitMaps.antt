-- Exponents of one name, computed.
use Rattle.std.proofs.Common.{◌≡◌, ◌∙◌, ◌++◌, arith, refl, sym, ap, ap₂, ℕ, pos, negsuc, true, false, List, []}
use Rattle.std.proofs.Common.{◌∷◌, length, map, codes, Some}
use Rattle.std.specs.Prelude.{unwrap_or}
use Rattle.std.specs.Cmp.Lexicographic.{nat_list_cmp_total, slice_cmp}
use Rattle.std.specs.FinMap as map_of
use Rattle.std.specs.FinMap.Entries.{find, put}
use Rattle.std.specs.Ordering.{nat_cmp}
use Rattle.frac128.specs.Divisors.{gcd, gcd_within}
use Rattle.frac128.specs.Fraction.{Fraction, whole_fraction}
use Rattle.frac128.specs.Steps.{lowest_terms}
use Rattle.quantity.specs.Amount.{exponents_conform, powers_match}
use Rattle.quantity.specs.Answers.{exponents_in_range}
use Rattle.quantity.specs.Exponents.{Exponents, exponent_difference, exponent_of, exponent_product, exponent_sum}
use Rattle.quantity.specs.Exponents.{exponents_by}
use Rattle.quantity.specs.Merges.{UnitPowers}
use Rattle.quantity.specs.Powers.{power_exponents}
use Rattle.quantity.specs.Products.{product_exponents, quotient_exponents}
use Rattle.tree_eval.specs.Examples.{eval_example_quotient}

-- the map of a name with this exponent
abbrev single : List ℕ → Fraction → Exponents
single name e = map_of.insert map_of.empty name e

-- the empty map
abbrev none : Exponents
none = map_of.empty

eval_no_unit_entries : map_of.entries none ≡ []
eval_no_unit_entries = nothing_in _ (sym (map_of.len-entries none) ∙ map_of.len-empty (slice_cmp nat_cmp) Fraction)
  where
    nothing_in : (es : UnitPowers) → length es ≡ 0 → es ≡ []
    nothing_in [] h = refl
    nothing_in (e ∷ es) h = absurd (omega arith)

eval_one_unit_entry : (name : List ℕ) (e : Fraction) → map_of.entries (single name e) ≡ (name, e) ∷ []
eval_one_unit_entry name e =
    map_of.entries-insert nat_list_cmp_total none name e ∙ ap (put (slice_cmp nat_cmp) name e) eval_no_unit_entries

-- the number of names in a map
pub eval_no_units_len : map_of.len none ≡ 0
eval_no_units_len = map_of.len-empty (slice_cmp nat_cmp) Fraction

pub eval_one_unit_len : (name : List ℕ) (e : Fraction) → map_of.len (single name e) ≡ 1
eval_one_unit_len name e = map_of.len-entries (single name e) ∙ ap length (eval_one_unit_entry name e)

-- the exponent of a name in a list
abbrev in_list : UnitPowers → List ℕ → Fraction
in_list es name = unwrap_or (find (slice_cmp nat_cmp) name es) (whole_fraction (pos 0))

abbrev names_in : UnitPowers → List (List ℕ)
names_in es = map (λ e. e.0) es

eval_unit_exponent : (p : Exponents) (ps : UnitPowers) → map_of.entries p ≡ ps → (name : List ℕ)
    → exponent_of p name ≡ in_list ps name
eval_unit_exponent p ps e name =
    ap (λ q. unwrap_or q (whole_fraction (pos 0))) (map_of.get-entries p name) ∙ ap (λ es. in_list es name) e

eval_unit_power : (p : Exponents) (ps : UnitPowers) → map_of.entries p ≡ ps → (by : Fraction)
    → power_exponents p by ≡ exponents_in_range (λ name. exponent_product (in_list ps name) by) (names_in ps)
unfolding power_exponents
eval_unit_power p ps e by = λ i. exponents_in_range (λ name. exponent_product (eval_unit_exponent p ps e name i) by)
    (names_in (e i))

module _ (p o : Exponents) (ps os : UnitPowers) (left : map_of.entries p ≡ ps) (right : map_of.entries o ≡ os) where
  product_is : product_exponents p o
      ≡ exponents_in_range (λ name. exponent_sum (in_list ps name) (in_list os name)) (names_in ps ++ names_in os)
  unfolding product_exponents
  product_is = λ i. exponents_in_range
      (λ name. exponent_sum (eval_unit_exponent p ps left name i) (eval_unit_exponent o os right name i))
      (names_in (left i) ++ names_in (right i))

  quotient_is : quotient_exponents p o
      ≡ exponents_in_range (λ name. exponent_difference (in_list ps name) (in_list os name))
      (names_in ps ++ names_in os)
  unfolding quotient_exponents
  quotient_is =
      λ i. exponents_in_range
      (λ name. exponent_difference (eval_unit_exponent p ps left name i) (eval_unit_exponent o os right name i))
      (names_in (left i) ++ names_in (right i))

  conform_is : exponents_conform p o ≡ powers_match (λ e. e) ps os
  conform_is = ap₂ (powers_match (λ e. e)) left right

-- ---- the two units
abbrev pub m : List ℕ
m = codes "m"

abbrev s : List ℕ
s = codes "s"

abbrev pub one : Fraction
one = whole_fraction (pos 1)

eval_entries_of_m : map_of.entries (single m one) ≡ (m, one) ∷ []
eval_entries_of_m = eval_one_unit_entry m one

eval_entries_of_s : map_of.entries (single s one) ≡ (s, one) ∷ []
eval_entries_of_s = eval_one_unit_entry s one

pub eval_number_times_m : product_exponents none (single m one) ≡ Some (single m one)
unfolding exponents_in_range exponents_by lowest_terms gcd gcd_within
eval_number_times_m = product_is none (single m one) [] _ eval_no_unit_entries eval_entries_of_m ∙ refl

pub eval_m_over_m : quotient_exponents (single m one) (single m one) ≡ Some none
unfolding exponents_in_range exponents_by lowest_terms gcd gcd_within
eval_m_over_m = quotient_is (single m one) (single m one) _ _ eval_entries_of_m eval_entries_of_m ∙ refl

pub eval_number_over_s : quotient_exponents none (single s one) ≡ Some (single s (whole_fraction (negsuc 0)))
unfolding exponents_in_range exponents_by lowest_terms gcd gcd_within
eval_number_over_s = quotient_is none (single s one) [] _ eval_no_unit_entries eval_entries_of_s ∙ refl

pub eval_m_squared : power_exponents (single m one) (whole_fraction (pos 2)) ≡ Some (single m (whole_fraction (pos 2)))
unfolding exponents_in_range exponents_by lowest_terms gcd gcd_within
eval_m_squared = eval_unit_power (single m one) _ eval_entries_of_m (whole_fraction (pos 2)) ∙ refl

pub eval_root_of_m : power_exponents (single m one) (eval_example_quotient (pos 1) 2) ≡ Some
    (single m (eval_example_quotient (pos 1) 2))
unfolding exponents_in_range exponents_by lowest_terms gcd gcd_within
eval_root_of_m = eval_unit_power (single m one) _ eval_entries_of_m (eval_example_quotient (pos 1) 2) ∙ refl

pub eval_m_like_m : exponents_conform (single m one) (single m one) ≡ true
eval_m_like_m = conform_is (single m one) (single m one) _ _ eval_entries_of_m eval_entries_of_m ∙ refl

pub eval_m_unlike_s : exponents_conform (single m one) (single s one) ≡ false
eval_m_unlike_s = conform_is (single m one) (single s one) _ _ eval_entries_of_m eval_entries_of_s ∙ refl

pub eval_s_unlike_m : exponents_conform (single s one) (single m one) ≡ false
eval_s_unlike_m = conform_is (single s one) (single m one) _ _ eval_entries_of_s eval_entries_of_m ∙ refl

pub eval_m_unlike_number : exponents_conform (single m one) none ≡ false
eval_m_unlike_number = conform_is (single m one) none _ [] eval_entries_of_m eval_no_unit_entries ∙ refl

pub eval_number_unlike_m : exponents_conform none (single m one) ≡ false
eval_number_unlike_m = conform_is none (single m one) [] _ eval_no_unit_entries eval_entries_of_m ∙ refl
