-- The merge of two lists in order.
use Rattle.std.proofs.Common.{◌≡◌, refl, sym, ap, ap₂, subst, ◌∙◌, Bool, true, false, cond, T, [], ◌∷◌, map, inl, inr}
use Rattle.std.proofs.Common.{None, Some, IsFalse}
use Rattle.std.specs.Prelude.{unwrap_or}
use Rattle.std.specs.FinMap.Entries.{below_all, find, is_sorted}
use Rattle.std.specs.List.{AllByRecursion as Each}
use Rattle.std.specs.Ordering.{match_ordering, is_lt}
use Rattle.std.specs.declared.cmp.Ordering.TheVariants.{Less, Equal, Greater}
use Rattle.frac128.specs.Fraction.{Fraction, IsReducedFraction}
use Rattle.frac128.specs.Steps.{ReducedFractionLaw}
use Rattle.frac128.specs.Sign.{is_zero_fraction}
use Rattle.quantity.specs.Exponents.{IsUnitPower, exponent_sum, is_exponent}
use Rattle.quantity.specs.Merges.{UnitPowers, merge_of_powers, power_merged_into, put_nonzero_power, unit_power_by}
use Rattle.quantity.proofs.Fractions.{absent_exponent_is_reduced, kept, nonzero_exponent_is_found, nothing, sum_left}
use Rattle.quantity.proofs.Fractions.{sum_right}
use Rattle.quantity.proofs.OrderedPowers.{at, find_first_power, find_past_power}
use Rattle.quantity.proofs.Names.{Name, and_first, and_from_both, by_bytes, find_below_powers_is_none, is_name}
use Rattle.quantity.proofs.Names.{lower_name_below_powers, lower_power_name_is_less, power_names_are_same_or_apart}
use Rattle.quantity.proofs.Names.{and_second, equal_power_names_are_same, power_name_order_reverses}

-- the properties of a step that takes the exponents of the second list
pub record IsStep (step : Fraction → Fraction) : Type 0 where
  pub reduced : (e : Fraction) → IsReducedFraction e → IsReducedFraction (step e)
  pub zero : (e : Fraction) → is_zero_fraction (step e) ≡ is_zero_fraction e
  pub nothing : step nothing ≡ nothing
  pub fits : (e : Fraction) → is_exponent (step e) ≡ is_exponent e

-- ---- the names increase

-- a name below all powers is also below the powers that a step takes
powers_below-map : (step : Fraction → Fraction) (x : Name) (os : UnitPowers) → T (below_all by_bytes x os)
    → T (below_all by_bytes x (map (unit_power_by step) os))
powers_below-map step x [] h = tt
powers_below-map step x (o ∷ os) h = and_from_both _ _ (and_first _ _ h) (powers_below-map step x os (and_second _ _ h))

-- a name below a power and below all others is below the list with that power in front
pub powers_below-put : (x : Name) (p : Name × Fraction) (es : UnitPowers) → T (is_lt (by_bytes x p.0))
    → T (below_all by_bytes x es)
    → T (below_all by_bytes x (put_nonzero_power p es))
powers_below-put x p es h g = go (is_zero_fraction p.1)
  where
    go : (z : Bool) → T (below_all by_bytes x (cond z es (p ∷ es)))
    go true = g
    go false = and_from_both _ _ h g

-- a name below all powers is below the merge with one power in front
powers_below-into : (step : Fraction → Fraction) (x : Name) (p : Name × Fraction) (rest : UnitPowers → UnitPowers)
    (os : UnitPowers)
    → ((os : UnitPowers) → T (below_all by_bytes x os) → T (below_all by_bytes x (rest os)))
    → T (is_lt (by_bytes x p.0)) → T (below_all by_bytes x os)
    → T (below_all by_bytes x (power_merged_into step p rest os))
powers_below-into step x p rest [] below h g = and_from_both _ _ h (below [] tt)
powers_below-into step x p rest (o ∷ os) below h g =
    let more = powers_below-into step x p rest os below h (and_second _ _ g) in
    elim (by_bytes p.0 o.0) as
    (λ r. T (below_all by_bytes x
    (match_ordering r (p ∷ rest (o ∷ os)) (put_nonzero_power (p.0, exponent_sum p.1 (step o.1)) (rest os))
    (unit_power_by step o ∷ power_merged_into step p rest os)))) [
      | Less ↦ and_from_both _ _ h (below (o ∷ os) g)
      | Equal ↦ powers_below-put x (p.0, exponent_sum p.1 (step o.1)) (rest os) h (below os (and_second _ _ g))
      | Greater ↦ and_from_both _ _ (and_first _ _ g) more
    ]

-- a name below all powers of two lists is below their merge
powers_below-merged : (step : Fraction → Fraction) (x : Name) (ps os : UnitPowers) → T (below_all by_bytes x ps)
    → T (below_all by_bytes x os) → T (below_all by_bytes x (merge_of_powers step ps os))
powers_below-merged step x [] os h g = powers_below-map step x os g
powers_below-merged step x (p ∷ ps) os h g =
    powers_below-into step x p (merge_of_powers step ps) os
    (λ os g. powers_below-merged step x ps os (and_second _ _ h) g) (and_first _ _ h) g

-- a step preserves the order of sorted powers
pub powers_sorted-map : (step : Fraction → Fraction) (os : UnitPowers) → T (is_sorted by_bytes os)
    → T (is_sorted by_bytes (map (unit_power_by step) os))
powers_sorted-map step [] h = tt
powers_sorted-map step (o ∷ os) h = and_from_both _ _ (powers_below-map step o.0 os (and_first _ _ h))
    (powers_sorted-map step os (and_second _ _ h))

-- putting a lower power in front preserves the order of sorted powers
pub powers_sorted-put : (p : Name × Fraction) (es : UnitPowers) → T (below_all by_bytes p.0 es)
    → T (is_sorted by_bytes es)
    → T (is_sorted by_bytes (put_nonzero_power p es))
powers_sorted-put p es h g = go (is_zero_fraction p.1)
  where
    go : (z : Bool) → T (is_sorted by_bytes (cond z es (p ∷ es)))
    go true = g
    go false = and_from_both _ _ h g

-- merging sorted powers with a lower one in front gives sorted powers
powers_sorted-into : (step : Fraction → Fraction) (p : Name × Fraction) (ps os : UnitPowers)
    → ((os : UnitPowers) → T (is_sorted by_bytes os) → T (is_sorted by_bytes (merge_of_powers step ps os)))
    → T (below_all by_bytes p.0 ps) → T (is_sorted by_bytes os)
    → T (is_sorted by_bytes (merge_of_powers step (p ∷ ps) os))
powers_sorted-into step p ps [] rest h g = and_from_both _ _ (powers_below-merged step p.0 ps [] h tt) (rest [] tt)
powers_sorted-into step p ps (o ∷ os) rest h g =
    let more = powers_sorted-into step p ps os rest h (and_second _ _ g) in
    elim (by_bytes p.0 o.0) as
    (λ r. by_bytes p.0 o.0 ≡ r
    → T (is_sorted by_bytes
    (match_ordering r (p ∷ merge_of_powers step ps (o ∷ os))
    (put_nonzero_power (p.0, exponent_sum p.1 (step o.1)) (merge_of_powers step ps os))
    (unit_power_by step o ∷ merge_of_powers step (p ∷ ps) os)))) [
      | Less ↦ λ e. and_from_both _ _
          (powers_below-merged step p.0 ps (o ∷ os) h
          (and_from_both _ _ (lower_power_name_is_less p.0 o.0 e)
          (lower_name_below_powers p.0 o.0 os e (and_first _ _ g))))
          (rest (o ∷ os) g)
      | Equal ↦ λ e. powers_sorted-put (p.0, exponent_sum p.1 (step o.1)) (merge_of_powers step ps os)
          (powers_below-merged step p.0 ps os h
          (subst (λ n. T (below_all by_bytes n os)) (sym (equal_power_names_are_same p.0 o.0 e)) (and_first _ _ g)))
          (rest os (and_second _ _ g))
      | Greater ↦ λ e. and_from_both _ _
          (powers_below-merged step o.0 (p ∷ ps) os
          (and_from_both _ _ (lower_power_name_is_less o.0 p.0 (power_name_order_reverses p.0 o.0 e))
          (lower_name_below_powers o.0 p.0 ps (power_name_order_reverses p.0 o.0 e) h))
          (and_first _ _ g))
          more
    ] refl

-- merging sorted lists gives a sorted list
pub powers_sorted-merged : (step : Fraction → Fraction) (ps os : UnitPowers) → T (is_sorted by_bytes ps)
    → T (is_sorted by_bytes os)
    → T (is_sorted by_bytes (merge_of_powers step ps os))
powers_sorted-merged step [] os h g = powers_sorted-map step os g
powers_sorted-merged step (p ∷ ps) os h g =
    powers_sorted-into step p ps os (λ os g. powers_sorted-merged step ps os (and_second _ _ h) g) (and_first _ _ h) g

-- ---- each name has the sum of its exponents

-- a power with another name does not change the exponent of a name
pub exponent_at-past : (q n : Name) (v : Fraction) (es : UnitPowers) → is_name q n ≡ false
    → at ((n, v) ∷ es) q ≡ at es q
exponent_at-past q n v es other = ap (λ o. unwrap_or o nothing) (find_past_power q n v es other)

-- a name below all powers has the exponent 0
pub exponent_at-below : (q : Name) (es : UnitPowers) → T (below_all by_bytes q es) → at es q ≡ nothing
exponent_at-below q es h = ap (λ o. unwrap_or o nothing) (find_below_powers_is_none q es h)

-- the exponent of a name in a list of the program is in lowest terms
pub exponent_at_is_reduced : (es : UnitPowers) (q : Name) → Each IsUnitPower es → IsReducedFraction (at es q)
exponent_at_is_reduced [] q all = absent_exponent_is_reduced
exponent_at_is_reduced (e ∷ es) q all =
    elim (is_name q e.0) as (λ b. IsReducedFraction (unwrap_or (cond b (Some e.1) (find by_bytes q es)) nothing)) [
      | true ↦ all.0.exponent.exponent_reduced
      | false ↦ exponent_at_is_reduced es q all.1
    ]

-- a lookup finds the exponent of a name unless it is 0
pub find-exponent_at : (es : UnitPowers) (q : Name) → Each IsUnitPower es → find by_bytes q es ≡ kept (at es q)
find-exponent_at [] q all = refl
find-exponent_at (e ∷ es) q all =
    elim (is_name q e.0) as
    (λ b. cond b (Some e.1) (find by_bytes q es) ≡ kept (unwrap_or (cond b (Some e.1) (find by_bytes q es)) nothing)) [
      | true ↦ sym (nonzero_exponent_is_found e.1 all.0.not_zero)
      | false ↦ find-exponent_at es q all.1
    ]

-- a lookup finds the name of the first power
pub find_own_power : (q n : Name) (v : Fraction) (es : UnitPowers) → q ≡ n → find by_bytes q ((n, v) ∷ es) ≡ Some v
find_own_power q n v es same = subst (λ m. find by_bytes q ((m, v) ∷ es) ≡ Some v) same (find_first_power q v es)

-- the exponent of the name of the first power is that of the power
pub exponent_at_own_power : (q n : Name) (v : Fraction) (es : UnitPowers) → q ≡ n → at ((n, v) ∷ es) q ≡ v
exponent_at_own_power q n v es same = ap (λ o. unwrap_or o nothing) (find_own_power q n v es same)

module _ (law : ReducedFractionLaw) (step : Fraction → Fraction) (is : IsStep step) where
  -- the exponent of a name in a merge
  abbrev total : UnitPowers → UnitPowers → Name → Fraction
  total ps os q = exponent_sum (at ps q) (step (at os q))

  -- the exponent of a name that is in only one of the lists
  left_alone : (ps os : UnitPowers) (q : Name) (v : Fraction) → IsReducedFraction v → IsFalse (is_zero_fraction v)
      → at ps q ≡ v
      → at os q ≡ nothing
      → Some v ≡ kept (total ps os q)
  left_alone ps os q v reduced some here gone =
      sym (nonzero_exponent_is_found v some)
      ∙ ap kept (sym (ap₂ (λ a b. exponent_sum a (step b)) here gone ∙ ap (exponent_sum v) is.nothing
      ∙ sum_left law v reduced))

  right_alone : (ps os : UnitPowers) (q : Name) (v : Fraction) → IsReducedFraction v → IsFalse (is_zero_fraction v)
      → at ps q ≡ nothing
      → at os q ≡ v
      → Some (step v) ≡ kept (total ps os q)
  right_alone ps os q v reduced some gone here =
      sym (nonzero_exponent_is_found (step v) (is.zero v ∙ some))
      ∙ ap kept (sym (ap₂ (λ a b. exponent_sum a (step b)) gone here
      ∙ sum_right law (step v) (is.reduced v reduced)))

  neither : kept (exponent_sum nothing (step nothing)) ≡ None
  neither = ap (λ e. kept (exponent_sum nothing e)) is.nothing
      ∙ ap kept (sum_left law nothing absent_exponent_is_reduced)

  same_total : (ps os ms ns : UnitPowers) (q : Name) → at ps q ≡ at ms q → at os q ≡ at ns q
      → kept (total ms ns q) ≡ kept (total ps os q)
  same_total ps os ms ns q left right = ap₂ (λ a b. kept (exponent_sum a (step b))) (sym left) (sym right)

  find-map : (os : UnitPowers) (q : Name) → Each IsUnitPower os
      → find by_bytes q (map (unit_power_by step) os) ≡ kept (total [] os q)
  find-map [] q all = sym neither
  find-map (o ∷ os) q all =
      let rest = find-map os q all.1 in
      elim (power_names_are_same_or_apart q o.0) [
        | inl same ↦ find_own_power q o.0 (step o.1) (map (unit_power_by step) os) same
            ∙ right_alone [] (o ∷ os) q o.1 all.0.exponent.exponent_reduced all.0.not_zero refl
            (exponent_at_own_power q o.0 o.1 os same)
        | inr other ↦ find_past_power q o.0 (step o.1) (map (unit_power_by step) os) other ∙ rest
            ∙ same_total [] (o ∷ os) [] os q refl (exponent_at-past q o.0 o.1 os other)
      ]

  -- a lookup in a merge if the first name is only in the first list
  find-left : (p : Name × Fraction) (ps os : UnitPowers) (q : Name) → IsUnitPower p → T (below_all by_bytes p.0 os)
      → find by_bytes q (merge_of_powers step ps os) ≡ kept (total ps os q)
      → find by_bytes q (p ∷ merge_of_powers step ps os) ≡ kept (total (p ∷ ps) os q)
  find-left p ps os q known below rest = elim (power_names_are_same_or_apart q p.0) [
    | inl same ↦ find_own_power q p.0 p.1 (merge_of_powers step ps os) same
        ∙ left_alone (p ∷ ps) os q p.1 known.exponent.exponent_reduced known.not_zero
        (exponent_at_own_power q p.0 p.1 ps same)
        (exponent_at-below q os (subst (λ n. T (below_all by_bytes n os)) (sym same) below))
    | inr other ↦ find_past_power q p.0 p.1 (merge_of_powers step ps os) other ∙ rest
        ∙ same_total (p ∷ ps) os ps os q (exponent_at-past q p.0 p.1 ps other) refl
  ]

  -- a lookup in a merge if the first name is only in the second list
  find-right : (o : Name × Fraction) (ps os : UnitPowers) (q : Name) → IsUnitPower o → T (below_all by_bytes o.0 ps)
      → find by_bytes q (merge_of_powers step ps os) ≡ kept (total ps os q)
      → find by_bytes q (unit_power_by step o ∷ merge_of_powers step ps os) ≡ kept (total ps (o ∷ os) q)
  find-right o ps os q known below rest = elim (power_names_are_same_or_apart q o.0) [
    | inl same ↦ find_own_power q o.0 (step o.1) (merge_of_powers step ps os) same
        ∙ right_alone ps (o ∷ os) q o.1 known.exponent.exponent_reduced known.not_zero
        (exponent_at-below q ps (subst (λ n. T (below_all by_bytes n ps)) (sym same) below))
        (exponent_at_own_power q o.0 o.1 os same)
    | inr other ↦ find_past_power q o.0 (step o.1) (merge_of_powers step ps os) other ∙ rest
        ∙ same_total ps (o ∷ os) ps os q refl (exponent_at-past q o.0 o.1 os other)
  ]

  -- a lookup in a merge if the first name is in both lists
  find-both : (p o : Name × Fraction) (ps os : UnitPowers) (q : Name) → p.0 ≡ o.0 → T (below_all by_bytes p.0 ps)
      → T (below_all by_bytes o.0 os)
      → find by_bytes q (merge_of_powers step ps os) ≡ kept (total ps os q)
      → find by_bytes q (put_nonzero_power (p.0, exponent_sum p.1 (step o.1)) (merge_of_powers step ps os))
      ≡ kept (total (p ∷ ps) (o ∷ os) q)
  find-both p o ps os q names below_p below_o rest = elim (power_names_are_same_or_apart q p.0) [
    | inl same ↦ own same (is_zero_fraction (exponent_sum p.1 (step o.1))) refl
    | inr other ↦ another (is_zero_fraction (exponent_sum p.1 (step o.1))) other ∙ rest
        ∙ same_total (p ∷ ps) (o ∷ os) ps os q (exponent_at-past q p.0 p.1 ps other)
        (exponent_at-past q o.0 o.1 os (subst (λ n. is_name q n ≡ false) names other))
  ]
    where
      another : (z : Bool) → is_name q p.0 ≡ false
          → find by_bytes q (cond z (merge_of_powers step ps os)
          ((p.0, exponent_sum p.1 (step o.1)) ∷ merge_of_powers step ps os))
          ≡ find by_bytes q (merge_of_powers step ps os)
      another true other = refl
      another false other = find_past_power q p.0 (exponent_sum p.1 (step o.1)) (merge_of_powers step ps os) other

      value : q ≡ p.0 → total (p ∷ ps) (o ∷ os) q ≡ exponent_sum p.1 (step o.1)
      value same = ap₂ (λ a b. exponent_sum a (step b)) (exponent_at_own_power q p.0 p.1 ps same)
          (exponent_at_own_power q o.0 o.1 os (same ∙ names))

      gone : q ≡ p.0 → kept (total ps os q) ≡ None
      gone same = ap₂ (λ a b. kept (exponent_sum a (step b)))
          (exponent_at-below q ps (subst (λ n. T (below_all by_bytes n ps)) (sym same) below_p))
          (exponent_at-below q os (subst (λ n. T (below_all by_bytes n os)) (sym (same ∙ names)) below_o)) ∙ neither

      own : q ≡ p.0 → (z : Bool) → is_zero_fraction (exponent_sum p.1 (step o.1)) ≡ z
          → find by_bytes q (put_nonzero_power (p.0, exponent_sum p.1 (step o.1)) (merge_of_powers step ps os))
          ≡ kept (total (p ∷ ps) (o ∷ os) q)
      own same true e =
          ap (λ z. find by_bytes q
          (cond z (merge_of_powers step ps os) ((p.0, exponent_sum p.1 (step o.1)) ∷ merge_of_powers step ps os))) e
          ∙ rest ∙ gone same ∙ sym (ap kept (value same) ∙ ap (λ z. cond z None (Some (exponent_sum p.1 (step o.1)))) e)
      own same false e =
          ap (λ z. find by_bytes q
          (cond z (merge_of_powers step ps os) ((p.0, exponent_sum p.1 (step o.1)) ∷ merge_of_powers step ps os))) e
          ∙ find_own_power q p.0 (exponent_sum p.1 (step o.1)) (merge_of_powers step ps os) same
          ∙ sym (ap kept (value same) ∙ nonzero_exponent_is_found (exponent_sum p.1 (step o.1)) e)

  find-into : (p : Name × Fraction) (ps os : UnitPowers) (q : Name) → IsUnitPower p → Each IsUnitPower os
      → T (below_all by_bytes p.0 ps)
      → T (is_sorted by_bytes os)
      → ((os : UnitPowers) → Each IsUnitPower os → T (is_sorted by_bytes os)
      → find by_bytes q (merge_of_powers step ps os) ≡ kept (total ps os q))
      → find by_bytes q (merge_of_powers step (p ∷ ps) os) ≡ kept (total (p ∷ ps) os q)
  find-into p ps [] q known all below sorted rest = find-left p ps [] q known tt (rest [] tt tt)
  find-into p ps (o ∷ os) q known all below sorted rest =
      let more = find-into p ps os q known all.1 below (and_second _ _ sorted) rest in
      elim (by_bytes p.0 o.0) as
      (λ r. by_bytes p.0 o.0 ≡ r
      → find by_bytes q
      (match_ordering r (p ∷ merge_of_powers step ps (o ∷ os))
      (put_nonzero_power (p.0, exponent_sum p.1 (step o.1)) (merge_of_powers step ps os))
      (unit_power_by step o ∷ merge_of_powers step (p ∷ ps) os))
      ≡ kept (total (p ∷ ps) (o ∷ os) q)) [
        | Less ↦ λ e. find-left p ps (o ∷ os) q known
            (and_from_both _ _ (lower_power_name_is_less p.0 o.0 e)
            (lower_name_below_powers p.0 o.0 os e (and_first _ _ sorted)))
            (rest (o ∷ os) all sorted)
        | Equal ↦ λ e. find-both p o ps os q (equal_power_names_are_same p.0 o.0 e) below (and_first _ _ sorted)
            (rest os all.1 (and_second _ _ sorted))
        | Greater ↦ λ e. find-right o (p ∷ ps) os q all.0
            (and_from_both _ _ (lower_power_name_is_less o.0 p.0 (power_name_order_reverses p.0 o.0 e))
            (lower_name_below_powers o.0 p.0 ps (power_name_order_reverses p.0 o.0 e) below))
            more
      ] refl

  pub find-merged : (ps os : UnitPowers) (q : Name) → Each IsUnitPower ps → Each IsUnitPower os
      → T (is_sorted by_bytes ps)
      → T (is_sorted by_bytes os)
      → find by_bytes q (merge_of_powers step ps os) ≡ kept (total ps os q)
  find-merged [] os q all all_os sorted sorted_os = find-map os q all_os
  find-merged (p ∷ ps) os q all all_os sorted sorted_os =
      find-into p ps os q all.0 all_os (and_first _ _ sorted) sorted_os
      (λ os all_os sorted_os. find-merged ps os q all.1 all_os (and_second _ _ sorted) sorted_os)
