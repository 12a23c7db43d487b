-- Merges with an empty list, and copies.
use Rattle.std.proofs.Common.{◌≡◌, ◌==◌, refl, sym, ap, ap₂, ◌∙◌, ◌&&◌, true, [], ◌∷◌, All, IsTrue, arith, length}
use Rattle.std.proofs.Common.{map, Ok, Some}
use Rattle.std.specs.FinMap as map_of
use Rattle.std.proofs.lemmas.Bool.Decides.{nat_tests}
use Rattle.std.proofs.lemmas.List.Elements.{All-from_recursion, All-head, All-tail}
use Rattle.frac128.specs.Fraction.{Fraction}
use Rattle.frac128.specs.Steps.{ReducedFractionLaw}
use Rattle.quantity.specs.Exponents.{Exponents, IsUnitPower}
use Rattle.quantity.specs.Factors.{exponent_in, exponents_with}
use Rattle.quantity.specs.Merges.{ArePowers, ArePowersInOrder, UnitPowers, are_exponents, exponents_in, merge_of_powers}
use Rattle.quantity.specs.Merges.{unit_power_by}
use Rattle.quantity.specs.Products.{product_exponents}
use Rattle.quantity.specs.declared.factor.Factor.{Factor}
use Rattle.quantity.specs.declared.factor.Factor.TheVariants.{Plain}
use Rattle.quantity.proofs.MergedPowers.{IsStep}
use Rattle.quantity.proofs.Ranges.{exponent_passes}
use Rattle.quantity.proofs.Single.{no_powers_empty_map, ordered_powers_list_of_map}
use Rattle.quantity.proofs.Steps.{factor_exponent_step, product_powers_ok}

-- the exponents of powers of the program are in range
pub program_exponents_in_range : (ps : UnitPowers) → All IsUnitPower ps → are_exponents ps ≡ true
program_exponents_in_range [] all = refl
program_exponents_in_range (p ∷ ps) all =
    ap₂ (λ a b. a && b) (exponent_passes p.1 (All-head IsUnitPower p ps all).exponent)
    (program_exponents_in_range ps (All-tail IsUnitPower p ps all))

-- a step does not change whether all exponents are in range
pub power_step_keeps_range : (step : Fraction → Fraction) → IsStep step → (os : UnitPowers)
    → are_exponents (map (unit_power_by step) os) ≡ are_exponents os
power_step_keeps_range step is [] = refl
power_step_keeps_range step is (o ∷ os) = ap₂ (λ a b. a && b) (is.fits o.1) (power_step_keeps_range step is os)

-- powers taken as they are do not change
pub plain_step_keeps_powers : (os : UnitPowers) → map (unit_power_by (λ e. e)) os ≡ os
plain_step_keeps_powers [] = refl
plain_step_keeps_powers (o ∷ os) = ap (λ es. o ∷ es) (plain_step_keeps_powers os)

-- merging an empty list into powers does not change them
pub no_powers_merged_into : (step : Fraction → Fraction) (ps : UnitPowers) → merge_of_powers step ps [] ≡ ps
no_powers_merged_into step [] = refl
no_powers_merged_into step (p ∷ ps) = ap (λ es. p ∷ es) (no_powers_merged_into step ps)

-- powers merged with an empty list are the merge
pub powers_merged_with_empty : (step : Fraction → Fraction) (ps os : UnitPowers) → All IsUnitPower ps → os ≡ []
    → ArePowers (λ (ds : UnitPowers). ds) (Ok ps) (merge_of_powers step ps os)
powers_merged_with_empty step ps os all none =
    let is : merge_of_powers step ps os ≡ ps = ap (merge_of_powers step ps) none ∙ no_powers_merged_into step ps in
    (sym is, ap are_exponents is ∙ program_exponents_in_range ps all)

-- powers merged into an empty list are their copies
pub powers_merged_into_empty : (factor : Factor) (ps os es : UnitPowers) → All IsUnitPower os → ps ≡ []
    → es ≡ map (unit_power_by (exponent_in factor)) os
    → ArePowers (λ (ds : UnitPowers). ds) (Ok es) (merge_of_powers (exponent_in factor) ps os)
powers_merged_into_empty factor ps os es all none copied =
    let is : merge_of_powers (exponent_in factor) ps os ≡ map (unit_power_by (exponent_in factor)) os =
    ap (λ ds. merge_of_powers (exponent_in factor) ds os) none in (
      copied ∙ sym is,
      ap are_exponents is ∙ power_step_keeps_range (exponent_in factor) (factor_exponent_step factor) os
          ∙ program_exponents_in_range os all,
    )

-- an empty list of powers is in order
pub no_powers_in_order : ArePowersInOrder []
no_powers_in_order = record { sorted_powers = tt; powers_right = All-from_recursion IsUnitPower [] tt }

-- multiplying or dividing by a number does not change the exponents
pub exponents_with_number : ReducedFractionLaw → (factor : Factor) (p : Exponents) (ps : UnitPowers)
    → ArePowersInOrder ps → exponents_in ps ≡ p
    → exponents_with factor p map_of.empty ≡ Some p
exponents_with_number law factor p ps order is =
    let left = ordered_powers_list_of_map ps ps p order is refl in
    let right = ordered_powers_list_of_map [] [] map_of.empty no_powers_in_order no_powers_empty_map refl in
    sym (product_powers_ok law factor p map_of.empty ps [] ps left right
    (powers_merged_with_empty (exponent_in factor) ps [] order.powers_right refl)) ∙ ap Some is

-- multiplying a number by a factor gives the exponents of the factor
pub number_with_exponents : ReducedFractionLaw → (o : Exponents) (os : UnitPowers) → ArePowersInOrder os
    → exponents_in os ≡ o
    → product_exponents map_of.empty o ≡ Some o
number_with_exponents law o os order is =
    let left = ordered_powers_list_of_map [] [] map_of.empty no_powers_in_order no_powers_empty_map refl in
    let right = ordered_powers_list_of_map os os o order is refl in
    sym (product_powers_ok law Plain map_of.empty o [] os os left right
    (powers_merged_into_empty Plain [] os os order.powers_right refl (sym (plain_step_keeps_powers os)))) ∙ ap Some is

-- a map without names is empty
pub no_names_no_exponents : (p : Exponents) → IsTrue (map_of.len p == 0) → p ≡ map_of.empty
no_names_no_exponents p h = let n : map_of.len p ≡ 0 = grind (arith, nat_tests) in map_of.empty_of_len p n

-- a list of length 0 is empty
pub no_powers_by_test : (es : UnitPowers) → IsTrue (length es == 0) → es ≡ []
no_powers_by_test [] h = refl
no_powers_by_test (e ∷ es) h = let n : length (e ∷ es) ≡ 0 = grind (arith, nat_tests) in absurd (omega (arith, n))

-- a list whose length equals 0 is empty
pub no_powers_by_length : (es : UnitPowers) → length es ≡ 0 → es ≡ []
no_powers_by_length [] h = refl
no_powers_by_length (e ∷ es) h = absurd (omega (arith, h))
