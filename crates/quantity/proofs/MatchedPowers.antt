-- Lists of powers that match.
use Rattle.std.proofs.Common.{◌≡◌, refl, sym, ap, ap₂, subst, ◌∙◌, Bool, true, false, cond, ◌&&◌, ◌==◌, T, []}
use Rattle.std.proofs.Common.{◌∷◌, map, Some, nat_eq, ◌↔◌}
use Rattle.std.specs.Prelude.{unwrap_or}
use Rattle.std.specs.Cmp.{first_so, second_so}
use Rattle.std.specs.Cmp.Lexicographic.{bytes_decides, nat_list_cmp_total, pointwise}
use Rattle.std.specs.FinMap as map_of
use Rattle.std.specs.FinMap.Entries.{find, is_sorted, same_entries}
use Rattle.std.specs.List.{AllByRecursion as Each}
use Rattle.std.specs.Ordering.{int_eq}
use Rattle.std.proofs.lemmas.Bool.Decides.{Decides-int_eq}
use Rattle.std.proofs.lemmas.List.Elements.{recursion_from_All}
use Rattle.std.proofs.lemmas.Bool.{eqb-true, eq-eqb}
use Rattle.frac128.specs.Fraction.{Fraction, opposite_fraction}
use Rattle.quantity.specs.Amount.{ConformingExponentsLaw, are_equal_exponents, exponents_conform, powers_match}
use Rattle.quantity.specs.Exponents.{AreExponents, Exponents, IsUnitPower, SameExponentsLaw, exponent_of}
use Rattle.quantity.specs.Merges.{UnitPowers, unit_power_by}
use Rattle.quantity.proofs.Fractions.{kept, negated_exponent_is_zero, nonzero_exponent_is_found, nothing}
use Rattle.quantity.proofs.OrderedPowers.{at}
use Rattle.quantity.proofs.MergedPowers.{find-exponent_at, powers_sorted-map}
use Rattle.quantity.proofs.Names.{Name, by_bytes, equal_power_names_are_same, is_name}

-- fractions for which the equality test is true are equal
equal_exponents_are_same : (x y : Fraction) → are_equal_exponents x y ≡ true → x ≡ y
equal_exponents_are_same x y h =
    let num : x.num ≡ y.num = (Decides-int_eq x.num y.num).0 (first_so _ _ h) in
    let den : x.den ≡ y.den = eqb-true x.den y.den (second_so (int_eq x.num y.num) _ h) in
    ap (λ n. record { num = n; den = x.den }) num ∙ ap (λ d. record { num = y.num; den = d }) den

-- the equality test is true for a fraction and itself
exponent_equals_itself : (x : Fraction) → are_equal_exponents x x ≡ true
exponent_equals_itself x = ap (λ b. b && (x.den == x.den)) ((Decides-int_eq x.num x.num).1 refl)
    ∙ eq-eqb x.den x.den refl

-- the equality test is true for a name and itself
power_name_equals_itself : (n : Name) → pointwise nat_eq n n ≡ true
power_name_equals_itself n = (bytes_decides n n).1 refl

-- ---- equal lists

-- powers match themselves
powers_match_themselves : (es : UnitPowers) → powers_match (λ e. e) es es ≡ true
powers_match_themselves [] = refl
powers_match_themselves (e ∷ es) = ap₂ (λ a b. (a && b) && powers_match (λ e. e) es es) (power_name_equals_itself e.0)
    (exponent_equals_itself e.1)
    ∙ powers_match_themselves es

-- powers that match are equal
matching_powers_are_equal : (es fs : UnitPowers) → powers_match (λ e. e) es fs ≡ true → es ≡ fs
matching_powers_are_equal [] [] h = refl
matching_powers_are_equal [] (f ∷ fs) h = absurd (cc)
matching_powers_are_equal (e ∷ es) [] h = absurd (cc)
matching_powers_are_equal (e ∷ es) (f ∷ fs) h =
    let front = first_so _ _ h in
    let name : e.0 ≡ f.0 = (bytes_decides e.0 f.0).0 (first_so _ _ front) in
    let value : e.1 ≡ f.1 = equal_exponents_are_same e.1 f.1 (second_so (pointwise nat_eq e.0 f.0) _ front) in
    let rest : es ≡ fs = matching_powers_are_equal es fs
    (second_so (pointwise nat_eq e.0 f.0 && are_equal_exponents e.1 f.1) _ h) in
    ap₂ (λ n v. (n, v) ∷ es) name value ∙ ap (λ ds. f ∷ ds) rest

-- the lists of two maps match if and only if the maps are equal
pub conforming_exponents_are_equal : (p o : Exponents)
    → (powers_match (λ e. e) (map_of.entries p) (map_of.entries o) ≡ true) ↔ (p ≡ o)
conforming_exponents_are_equal p o = (
  λ h. map_of.same_entries_map p o (matching_powers_are_equal _ _ h),
  λ e. subst (λ m. powers_match (λ e. e) (map_of.entries p) (map_of.entries m) ≡ true) e
      (powers_match_themselves (map_of.entries p)),
)

-- ---- opposite lists

-- if powers match with opposite signs, the exponents of each name are opposite
opposite_powers_at_name : (ps os : UnitPowers) (q : Name) → powers_match opposite_fraction ps os ≡ true
    → at ps q ≡ opposite_fraction (at os q)
opposite_powers_at_name [] [] q h = refl
opposite_powers_at_name [] (o ∷ os) q h = absurd (cc)
opposite_powers_at_name (p ∷ ps) [] q h = absurd (cc)
opposite_powers_at_name (p ∷ ps) (o ∷ os) q h =
    let front = first_so _ _ h in
    let name : p.0 ≡ o.0 = (bytes_decides p.0 o.0).0 (first_so _ _ front) in
    let value : p.1 ≡ opposite_fraction o.1 = equal_exponents_are_same p.1 (opposite_fraction o.1)
    (second_so (pointwise nat_eq p.0 o.0) _ front) in
    let rest = opposite_powers_at_name ps os q
    (second_so (pointwise nat_eq p.0 o.0 && are_equal_exponents p.1 (opposite_fraction o.1)) _ h) in
    subst (λ n. at (p ∷ ps) q ≡ opposite_fraction
    (unwrap_or (cond (is_name q n) (Some o.1) (find by_bytes q os)) nothing))
    name
    (go (is_name q p.0) value rest)
  where
    go : (b : Bool) → p.1 ≡ opposite_fraction o.1 → at ps q ≡ opposite_fraction (at os q)
        → unwrap_or (cond b (Some p.1) (find by_bytes q ps)) nothing
        ≡ opposite_fraction (unwrap_or (cond b (Some o.1) (find by_bytes q os)) nothing)
    go true value rest = value
    go false value rest = rest

-- the result of a lookup among negated powers
find-negated_power : (os : UnitPowers) (q : Name) → Each IsUnitPower os
    → find by_bytes q (map (unit_power_by opposite_fraction) os) ≡ kept (opposite_fraction (at os q))
find-negated_power [] q all = refl
find-negated_power (o ∷ os) q all = go (is_name q o.0) (find-negated_power os q all.1)
  where
    go : (b : Bool) → find by_bytes q (map (unit_power_by opposite_fraction) os) ≡ kept (opposite_fraction (at os q))
        → cond b (Some (opposite_fraction o.1)) (find by_bytes q (map (unit_power_by opposite_fraction) os))
        ≡ kept (opposite_fraction (unwrap_or (cond b (Some o.1) (find by_bytes q os)) nothing))
    go true rest = sym (nonzero_exponent_is_found (opposite_fraction o.1)
        (negated_exponent_is_zero o.1 ∙ all.0.not_zero))
    go false rest = rest

-- negated powers match with opposite signs
negated_powers_match : (os : UnitPowers) → powers_match opposite_fraction (map (unit_power_by opposite_fraction) os)
    os ≡ true
negated_powers_match [] = refl
negated_powers_match (o ∷ os) =
    ap₂ (λ a b. (a && b) && powers_match opposite_fraction (map (unit_power_by opposite_fraction) os) os)
    (power_name_equals_itself o.0)
    (exponent_equals_itself (opposite_fraction o.1))
    ∙ negated_powers_match os

-- ordered lists match with opposite signs if the exponents of each name are opposite
pub opposite_powers_match : (ps os : UnitPowers) → T (is_sorted by_bytes ps) → T (is_sorted by_bytes os)
    → Each IsUnitPower ps
    → Each IsUnitPower os
    → (powers_match opposite_fraction ps os ≡ true) ↔ ((q : Name) → at ps q ≡ opposite_fraction (at os q))
opposite_powers_match ps os sorted sorted_os all all_os = (
  λ h q. opposite_powers_at_name ps os q h,
  λ h. (let same : ps ≡ map (unit_power_by opposite_fraction) os =
      same_entries by_bytes nat_list_cmp_total equal_power_names_are_same ps (map (unit_power_by opposite_fraction) os)
      sorted
      (powers_sorted-map opposite_fraction os sorted_os)
      (λ q. find-exponent_at ps q all ∙ ap kept (h q) ∙ sym (find-negated_power os q all_os)) in
      subst (λ es. powers_match opposite_fraction es os ≡ true) (sym same) (negated_powers_match os)),
)

-- ---- maps with the same exponents

-- the exponent of a name in a map is that in the entries of the map
pub exponent_at : (m : Exponents) (q : Name) → exponent_of m q ≡ at (map_of.entries m) q
exponent_at m q = ap (λ o. unwrap_or o nothing) (map_of.get-entries m q)

-- a lookup in a map finds the exponent of a name unless it is 0
get_finds_exponent : (m : Exponents) (q : Name) → Each IsUnitPower (map_of.entries m)
    → map_of.get m q ≡ kept (exponent_of m q)
get_finds_exponent m q all = map_of.get-entries m q ∙ find-exponent_at (map_of.entries m) q all
    ∙ ap kept (sym (exponent_at m q))

-- the law that maps with the same exponents are equal
pub same_exponents_law : SameExponentsLaw
same_exponents_law p o all all_o same =
    map_of.same_map nat_list_cmp_total equal_power_names_are_same p o (λ q.
    get_finds_exponent p q (recursion_from_All IsUnitPower _ all) ∙ ap kept (same q)
    ∙ sym (get_finds_exponent o q (recursion_from_All IsUnitPower _ all_o)))

-- the exponents of two maps are opposite if and only if their lists match with opposite signs
pub reciprocal_exponents_match : (p o : Exponents) → AreExponents p → AreExponents o
    → (powers_match opposite_fraction (map_of.entries p) (map_of.entries o) ≡ true)
    ↔ ((q : Name) → exponent_of p q ≡ opposite_fraction (exponent_of o q))
reciprocal_exponents_match p o all all_o =
    let both =
    opposite_powers_match (map_of.entries p) (map_of.entries o) (map_of.entries_sorted p) (map_of.entries_sorted o)
    (recursion_from_All IsUnitPower _ all) (recursion_from_All IsUnitPower _ all_o) in (
      λ h q. exponent_at p q ∙ both.0 h q ∙ ap opposite_fraction (sym (exponent_at o q)),
      λ h. both.1 (λ q. sym (exponent_at p q) ∙ h q ∙ ap opposite_fraction (exponent_at o q)),
    )

-- maps conform if and only if each name has the same exponent in both
pub conforming_exponents_by_name : (p o : Exponents) → AreExponents p → AreExponents o
    → (exponents_conform p o ≡ true) ↔ ((q : Name) → exponent_of p q ≡ exponent_of o q)
conforming_exponents_by_name p o all all_o = (
  λ h q. ap (λ m. exponent_of m q) ((conforming_exponents_are_equal p o).0 h),
  λ h. (conforming_exponents_are_equal p o).1 (same_exponents_law p o all all_o h),
)

-- the law of conforming and reciprocal maps
pub conforming_exponents_law : ConformingExponentsLaw
conforming_exponents_law p o all all_o =
    record {
      conforms_iff = conforming_exponents_by_name p o all all_o;
      reciprocal =
          reciprocal_exponents_match p o all all_o;
    }
