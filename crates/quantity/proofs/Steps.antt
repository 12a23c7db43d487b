-- The exponents of products, quotients and powers.
use Rattle.std.proofs.Common.{◌≡◌, refl, sym, ap, ap₂, subst, ◌∙◌, Bool, true, false, cond, ◌||◌, ◌&&◌, nat_le, List}
use Rattle.std.proofs.Common.{◌<◌, Option, None, Some, is_some, Ok, Err, IsTrue, IsFalse}
use Rattle.std.specs.Prelude.{unwrap_or}
use Rattle.std.specs.FinMap as map_of
use Rattle.std.specs.List.{list_all, list_any}
use Rattle.std.proofs.lemmas.List.Elements.{All-from_recursion, recursion_from_All}
use Rattle.std.proofs.lemmas.List.Folds.{list_any-append}
use Rattle.std.proofs.lemmas.Bool.{or_parts}
use Rattle.frac128.specs.Fraction.{Fraction, IsReducedFraction, opposite_fraction}
use Rattle.frac128.specs.Steps.{ReducedFractionLaw}
use Rattle.quantity.specs.Answers.{AreExpectedExponents, exponents_in_range}
use Rattle.quantity.specs.Exponents.{AreExponents, Exponents, IsUnitPower, exponent_of, exponent_product, exponent_sum}
use Rattle.quantity.specs.Exponents.{exponents_by, is_exponent, names_of_both_exponents}
use Rattle.quantity.specs.Factors.{exponent_in, exponents_with}
use Rattle.quantity.specs.Merges.{ArePowers, ArePowersInOrder, IsPowersFault, UnitPowers, are_exponents, exponents_in}
use Rattle.quantity.specs.Merges.{merge_of_powers, scaled_powers}
use Rattle.quantity.specs.Powers.{power_exponents}
use Rattle.quantity.specs.Products.{ProductExponentsLaw, product_exponents, quotient_exponents}
use Rattle.quantity.specs.declared.factor.Factor.{Factor}
use Rattle.quantity.specs.declared.factor.Factor.TheVariants.{Plain, Inverse}
use Rattle.quantity.specs.declared.fault.ExponentFault.{ExponentFault}
use Rattle.quantity.specs.declared.fault.ExponentFault.TheVariants.{Range, OutOfMemory}
use Rattle.quantity.proofs.Fractions.{kept, negated_exponent_is_reduced, negated_exponent_is_zero, nothing}
use Rattle.quantity.proofs.Fractions.{product_reduced, product_zero, sum_left, sum_reduced, absent_exponent_is_reduced}
use Rattle.quantity.proofs.OrderedPowers.{GivesNames, Lists, exponent_of-exponents_by, listed_powers_are_powers}
use Rattle.quantity.proofs.OrderedPowers.{listed_powers_map, listed_powers_range}
use Rattle.quantity.proofs.MatchedPowers.{exponent_at}
use Rattle.quantity.proofs.MergedPowers.{IsStep, exponent_at_is_reduced, find-merged, powers_sorted-merged}
use Rattle.quantity.proofs.Names.{Name, is_name}
use Rattle.quantity.proofs.Single.{IsListOf}
use Rattle.quantity.proofs.ScaledPowers.{find-scaled_power, powers_sorted-scaled}
use Rattle.general_lemmas.proofs.Integers.{abs-neg}

-- ---- the result of `exponents_in_range`

-- if each exponent is in range, the result is a map
exponents_in_range_ok : (f : Name → Fraction) (names : List Name) → list_all (λ q. is_exponent (f q)) names ≡ true
    → exponents_in_range f names ≡ Some (exponents_by f names)
unfolding exponents_in_range
exponents_in_range_ok f names h = ap (λ b. cond b (Some (exponents_by f names)) None) h

-- if an exponent is out of range, the result is `None`
exponents_in_range_none : (f : Name → Fraction) (names : List Name) → list_all (λ q. is_exponent (f q)) names ≡ false
    → exponents_in_range f names ≡ None
unfolding exponents_in_range
exponents_in_range_none f names h = ap (λ b. cond b (Some (exponents_by f names)) None) h

-- a map in range is the map of the function
exponents_in_range_some : (f : Name → Fraction) (names : List Name) (r : Exponents)
    → exponents_in_range f names ≡ Some r
    → exponents_by f names ≡ r
unfolding exponents_in_range
exponents_in_range_some f names r h = go (list_all (λ q. is_exponent (f q)) names) h
  where
    go : (b : Bool) → cond b (Some (exponents_by f names)) None ≡ Some r → exponents_by f names ≡ r
    go true h = cc
    go false h = absurd (cc)

-- the list is in order, and its exponents are those that f gives
pub record IsRanged (f : Name → Fraction) (names : List Name) (es : UnitPowers) : Type 0 where
  pub gives : GivesNames f names
  pub lists : Lists f es

-- a list with the exponents that a function gives is in order if all of them are in range
pub listed_powers_order : (f : Name → Fraction) (names : List Name) (es : UnitPowers) → IsRanged f names es
    → IsTrue (are_exponents es) → ArePowersInOrder es
listed_powers_order f names es is all =
    record {
      sorted_powers = is.lists.sorted;
      powers_right =
          All-from_recursion IsUnitPower es (listed_powers_are_powers f names es is.gives is.lists all);
    }

-- if all exponents of the list are in range, `exponents_in_range` gives the map of the list
pub listed_powers_ok : (f : Name → Fraction) (names : List Name) (es : UnitPowers) → IsRanged f names es
    → IsTrue (are_exponents es)
    → Some (exponents_in es) ≡ exponents_in_range f names
listed_powers_ok f names es is all =
    ap Some (listed_powers_map f names es is.gives is.lists)
    ∙ sym (exponents_in_range_ok f names (sym (listed_powers_range f names es is.gives is.lists) ∙ all))

-- if an exponent of the list is out of range, `exponents_in_range` gives `None`
pub listed_powers_none : (f : Name → Fraction) (names : List Name) (es : UnitPowers) → IsRanged f names es
    → IsFalse (are_exponents es)
    → None ≡ exponents_in_range f names
listed_powers_none f names es is some =
    sym (exponents_in_range_none f names (sym (listed_powers_range f names es is.gives is.lists) ∙ some))

-- a fault of the list is that of the map
pub listed_powers_fault : (f : Name → Fraction) (names : List Name) (es : UnitPowers) (fault : ExponentFault)
    → IsRanged f names es
    → IsPowersFault fault es → AreExpectedExponents (Err fault) (exponents_in_range f names)
listed_powers_fault f names es Range is listed = listed_powers_none f names es is listed
listed_powers_fault f names es OutOfMemory is listed = tt

-- ---- the names of maps

-- a name that is not among the keys has the exponent 0
absent_name_exponent : (m : Exponents) (q : Name) → list_any (is_name q) (map_of.keys m) ≡ false
    → exponent_of m q ≡ nothing
absent_name_exponent m q none = go (map_of.get m q) (map_of.contains_key-keys m q ∙ none)
  where
    go : (o : Option Fraction) → is_some o ≡ false → unwrap_or o nothing ≡ nothing
    go None h = refl
    go (Some v) h = absurd (cc)

-- each exponent is in lowest terms
pub exponent_reduced : (m : Exponents) (q : Name) → AreExponents m → IsReducedFraction (exponent_of m q)
exponent_reduced m q all =
    subst IsReducedFraction (sym (exponent_at m q))
    (exponent_at_is_reduced (map_of.entries m) q (recursion_from_All IsUnitPower _ all))

-- ---- products and quotients

-- taking an exponent as it is is a step
pub plain_exponent_step : IsStep (λ e. e)
plain_exponent_step = record { reduced = λ e is. is; zero = λ e. refl; nothing = refl; fits = λ e. refl }

-- negating an exponent is a step
pub inverse_exponent_step : IsStep opposite_fraction
inverse_exponent_step = record {
  reduced = negated_exponent_is_reduced;
  zero = negated_exponent_is_zero;
  nothing = refl;
  fits =
      λ e. ap (λ n. nat_le n 32767 && nat_le e.den 60) (abs-neg e.num);
}

-- each factor gives a step
pub factor_exponent_step : (factor : Factor) → IsStep (exponent_in factor)
factor_exponent_step Plain = plain_exponent_step
factor_exponent_step Inverse = inverse_exponent_step

-- the exponent of a name in a product or a quotient
abbrev total : (Fraction → Fraction) → Exponents → Exponents → Name → Fraction
total step p o q = exponent_sum (exponent_of p q) (step (exponent_of o q))

-- only names in one of the two maps have a nonzero exponent
total_exponent_names : ReducedFractionLaw → (step : Fraction → Fraction) (p o : Exponents) → IsStep step
    → AreExponents p
    → AreExponents o
    → GivesNames (total step p o) (names_of_both_exponents p o)
total_exponent_names law step p o is all all_o = record {
  reduced = λ q. sum_reduced law (exponent_of p q) (step (exponent_of o q)) (exponent_reduced p q all).den_positive
      (is.reduced _ (exponent_reduced o q all_o)).den_positive;
  others = λ q none. others q (sym (list_any-append (is_name q) (map_of.keys p) (map_of.keys o)) ∙ none);
}
  where
    others : (q : Name) → (list_any (is_name q) (map_of.keys p) || list_any (is_name q) (map_of.keys o)) ≡ false
        → total step p o q ≡ nothing
    others q none =
        ap₂ (λ a b. exponent_sum a (step b)) (absent_name_exponent p q (or_parts _ _ none).0)
        (absent_name_exponent o q (or_parts (list_any (is_name q) (map_of.keys p)) _ none).1)
        ∙ ap (exponent_sum nothing) is.nothing ∙ sum_left law nothing absent_exponent_is_reduced

-- merged powers have these exponents
pub merged_powers_ranged : ReducedFractionLaw → (step : Fraction → Fraction) (p o : Exponents) → IsStep step
    → AreExponents p
    → AreExponents o
    → IsRanged (total step p o) (names_of_both_exponents p o)
    (merge_of_powers step (map_of.entries p) (map_of.entries o))
merged_powers_ranged law step p o is all all_o = record {
  gives = total_exponent_names law step p o is all all_o;
  lists = record {
    sorted = powers_sorted-merged step (map_of.entries p) (map_of.entries o) (map_of.entries_sorted p)
        (map_of.entries_sorted o);
    found = λ q. find-merged law step is (map_of.entries p) (map_of.entries o) q (recursion_from_All IsUnitPower _ all)
        (recursion_from_All IsUnitPower _ all_o) (map_of.entries_sorted p) (map_of.entries_sorted o)
        ∙ ap₂ (λ a b. kept (exponent_sum a (step b))) (sym (exponent_at p q)) (sym (exponent_at o q));
  };
}

-- the powers merged with those of a factor have these exponents
factor_powers_ranged : ReducedFractionLaw → (factor : Factor) (p o : Exponents) (ps os : UnitPowers) → IsListOf p ps
    → IsListOf o os
    → IsRanged (total (exponent_in factor) p o) (names_of_both_exponents p o)
    (merge_of_powers (exponent_in factor) ps os)
factor_powers_ranged law factor p o ps os left right =
    subst (IsRanged (total (exponent_in factor) p o) (names_of_both_exponents p o))
    (ap₂ (merge_of_powers (exponent_in factor)) (sym left.same) (sym right.same))
    (merged_powers_ranged law (exponent_in factor) p o (factor_exponent_step factor) left.kept right.kept)

-- exponents in range are those of the product or the quotient
exponents_with_factor : (factor : Factor) (p o : Exponents)
    → exponents_in_range (total (exponent_in factor) p o) (names_of_both_exponents p o) ≡ exponents_with factor p o
unfolding product_exponents quotient_exponents
exponents_with_factor Plain p o = refl
exponents_with_factor Inverse p o = refl

-- a merge without a fault is in order
pub product_powers_order : ReducedFractionLaw → (factor : Factor) (p o : Exponents) (ps os es : UnitPowers)
    → IsListOf p ps → IsListOf o os
    → ArePowers (λ (ds : UnitPowers). ds) (Ok es) (merge_of_powers (exponent_in factor) ps os) → ArePowersInOrder es
product_powers_order law factor p o ps os es left right listed =
    subst ArePowersInOrder (sym listed.0)
    (listed_powers_order _ _ _ (factor_powers_ranged law factor p o ps os left right) listed.1)

-- a merge without a fault gives the map of the product
pub product_powers_ok : ReducedFractionLaw → (factor : Factor) (p o : Exponents) (ps os es : UnitPowers) → IsListOf p ps
    → IsListOf o os
    → ArePowers (λ (ds : UnitPowers). ds) (Ok es) (merge_of_powers (exponent_in factor) ps os)
    → Some (exponents_in es) ≡ exponents_with factor p o
product_powers_ok law factor p o ps os es left right listed =
    ap (λ ds. Some (exponents_in ds)) listed.0
    ∙ listed_powers_ok _ _ _ (factor_powers_ranged law factor p o ps os left right) listed.1
    ∙ exponents_with_factor factor p o

-- a fault of a merge is a fault of the product
pub product_powers_fault : ReducedFractionLaw → (factor : Factor) (p o : Exponents) (ps os : UnitPowers)
    (fault : ExponentFault)
    → IsListOf p ps
    → IsListOf o os
    → IsPowersFault fault (merge_of_powers (exponent_in factor) ps os) → AreExpectedExponents (Err fault)
    (exponents_with factor p o)
product_powers_fault law factor p o ps os fault left right listed =
    subst (AreExpectedExponents (Err fault)) (exponents_with_factor factor p o)
    (listed_powers_fault _ _ _ fault (factor_powers_ranged law factor p o ps os left right) listed)

-- the law of products
pub product_exponents_law : ReducedFractionLaw → ProductExponentsLaw
unfolding product_exponents quotient_exponents
product_exponents_law law p o r all all_o = (
  λ h q. ap (λ m. exponent_of m q) (sym (exponents_in_range_some _ _ r h))
      ∙ exponent_of-exponents_by _ _ q (total_exponent_names law (λ e. e) p o plain_exponent_step all all_o),
  λ h q. ap (λ m. exponent_of m q) (sym (exponents_in_range_some _ _ r h))
      ∙ exponent_of-exponents_by _ _ q (total_exponent_names law opposite_fraction p o inverse_exponent_step all all_o),
)

-- ---- powers

-- scaled powers have the exponents times a fraction
pub scaled_powers_ranged : ReducedFractionLaw → (p : Exponents) (by : Fraction) → 0 < by.den → AreExponents p
    → IsRanged (λ q. exponent_product (exponent_of p q) by) (map_of.keys p) (scaled_powers by (map_of.entries p))
scaled_powers_ranged law p by some all = record {
  gives = record {
    reduced = λ q. product_reduced law (exponent_of p q) by (exponent_reduced p q all).den_positive some;
    others = λ q none. ap (λ e. exponent_product e by) (absent_name_exponent p q none) ∙ product_zero law by some;
  };
  lists = record {
    sorted = powers_sorted-scaled by (map_of.entries p) (map_of.entries_sorted p);
    found = λ q. find-scaled_power law by (map_of.entries p) q some (map_of.entries_sorted p)
        ∙ ap (λ e. kept (exponent_product e by)) (sym (exponent_at p q));
  };
}

-- the scaled powers of a list have the exponents times a fraction
scaled_power_list_ranged : ReducedFractionLaw → (p : Exponents) (by : Fraction) (ps : UnitPowers) → 0 < by.den
    → IsListOf p ps
    → IsRanged (λ q. exponent_product (exponent_of p q) by) (map_of.keys p) (scaled_powers by ps)
scaled_power_list_ranged law p by ps some list =
    subst (IsRanged (λ q. exponent_product (exponent_of p q) by) (map_of.keys p))
    (ap (scaled_powers by) (sym list.same))
    (scaled_powers_ranged law p by some list.kept)

-- a scaled list without a fault is in order
pub scaled_powers_order : ReducedFractionLaw → (p : Exponents) (by : Fraction) (ps es : UnitPowers) → 0 < by.den
    → IsListOf p ps
    → ArePowers (λ (ds : UnitPowers). ds) (Ok es) (scaled_powers by ps) → ArePowersInOrder es
scaled_powers_order law p by ps es some list listed =
    subst ArePowersInOrder (sym listed.0)
    (listed_powers_order _ _ _ (scaled_power_list_ranged law p by ps some list) listed.1)

-- a scaled list without a fault gives the map of the power
pub scaled_powers_ok : ReducedFractionLaw → (p : Exponents) (by : Fraction) (ps es : UnitPowers) → 0 < by.den
    → IsListOf p ps
    → ArePowers (λ (ds : UnitPowers). ds) (Ok es) (scaled_powers by ps) → Some (exponents_in es) ≡ power_exponents p by
unfolding power_exponents
scaled_powers_ok law p by ps es some list listed =
    ap (λ ds. Some (exponents_in ds)) listed.0 ∙ listed_powers_ok _ _ _ (scaled_power_list_ranged law p by ps some list)
    listed.1

-- a fault of a scaled list is a fault of the power
pub scaled_powers_fault : ReducedFractionLaw → (p : Exponents) (by : Fraction) (ps : UnitPowers) (fault : ExponentFault)
    → 0 < by.den
    → IsListOf p ps
    → IsPowersFault fault (scaled_powers by ps) → AreExpectedExponents (Err fault) (power_exponents p by)
unfolding power_exponents
scaled_powers_fault law p by ps fault some list listed = listed_powers_fault _ _ _ fault
    (scaled_power_list_ranged law p by ps some list) listed
