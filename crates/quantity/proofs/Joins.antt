-- Powers merged one by one into others.
use Rattle.std.proofs.Common.{◌≡◌, refl, sym, ap, ap₂, subst, ◌∙◌, Bool, true, false, cond, T, [], ◌∷◌, All}
use Rattle.std.proofs.Common.{inl, inr, Option, None, Some, IsTrue, IsFalse}
use Rattle.std.specs.Prelude.{unwrap_or}
use Rattle.std.specs.Cmp.Lexicographic.{nat_list_cmp_total}
use Rattle.std.specs.FinMap.Entries.{below_all, find, is_sorted, same_entries}
use Rattle.std.specs.List.{AllByRecursion as Each}
use Rattle.std.proofs.lemmas.List.Elements.{All-from_recursion, All-head, All-tail, recursion_from_All}
use Rattle.std.proofs.lemmas.Option.{same_Some}
use Rattle.frac128.specs.Fraction.{Fraction, IsReducedFraction}
use Rattle.frac128.specs.Steps.{ReducedFractionLaw}
use Rattle.frac128.specs.Sign.{is_zero_fraction}
use Rattle.quantity.specs.Exponents.{IsUnitPower, exponent_sum, is_exponent}
use Rattle.quantity.specs.Factors.{exponent_in}
use Rattle.quantity.specs.Merges.{ArePowersInOrder, IsPowersFault, UnitPowers, are_exponents, as_exponent, exponents_in}
use Rattle.quantity.specs.Merges.{merge_of_powers}
use Rattle.quantity.specs.declared.factor.Factor.{Factor}
use Rattle.quantity.specs.declared.fault.ExponentFault.{ExponentFault}
use Rattle.quantity.specs.declared.fault.ExponentFault.TheVariants.{Range, OutOfMemory}
use Rattle.quantity.proofs.Copies.{no_powers_merged_into, program_exponents_in_range}
use Rattle.quantity.proofs.Fractions.{found_exponent_or_zero, kept, nonzero_exponent_is_found, nothing, sum_left}
use Rattle.quantity.proofs.Fractions.{sum_reduced, sum_right, zero_exponent_is_absent}
use Rattle.quantity.proofs.OrderedPowers.{at, found_exponent, found_exponent_value, found_power_fault}
use Rattle.quantity.proofs.MergedPowers.{IsStep, exponent_at-below, exponent_at-past, exponent_at_is_reduced}
use Rattle.quantity.proofs.MergedPowers.{exponent_at_own_power, find-exponent_at, find-merged, powers_sorted-merged}
use Rattle.quantity.proofs.Ranges.{exponent_passes}
use Rattle.quantity.proofs.Names.{Name, and_first, and_second, by_bytes, equal_power_names_are_same, is_name}
use Rattle.quantity.proofs.Names.{power_name_is_itself, power_names_are_same_or_apart}
use Rattle.quantity.proofs.Single.{IsListOf, ordered_powers_list_of_map}
use Rattle.quantity.proofs.Steps.{factor_exponent_step, product_powers_order}

-- a single power
abbrev pub alone : Name × Fraction → UnitPowers
alone o = o ∷ []

-- powers in order are those of their map
ordered_powers_are_of_map : (es : UnitPowers) → ArePowersInOrder es → IsListOf (exponents_in es) es
ordered_powers_are_of_map es order = ordered_powers_list_of_map es es (exponents_in es) order refl refl

-- the test that tells two names apart is symmetric
power_name_test_is_symmetric : (x y : Name) → is_name x y ≡ false → is_name y x ≡ false
power_name_test_is_symmetric x y other = elim (power_names_are_same_or_apart y x) [
  | inl same ↦ (let two : is_name x x ≡ false = ap (is_name x) (sym same) ∙ other in let one = power_name_is_itself x in
      absurd (cc))
  | inr apart ↦ apart
]

-- the powers after the first are in order
pub powers_in_order_tail : (o : Name × Fraction) (more : UnitPowers) → ArePowersInOrder (o ∷ more)
    → ArePowersInOrder more
powers_in_order_tail o more all =
    record {
      sorted_powers = and_second _ _ all.sorted_powers;
      powers_right = All-tail IsUnitPower o more all.powers_right;
    }

-- a single power is in order
pub lone_power_in_order : (o : Name × Fraction) → IsUnitPower o → ArePowersInOrder (alone o)
lone_power_in_order o known =
    record { sorted_powers = tt; powers_right = All-from_recursion IsUnitPower (alone o) (known, tt) }

pub first_power_in_order : (o : Name × Fraction) (more : UnitPowers) → ArePowersInOrder (o ∷ more)
    → ArePowersInOrder (alone o)
first_power_in_order o more all = lone_power_in_order o (All-head IsUnitPower o more all.powers_right)

-- each power of a list in order is one of the program
each_ordered_power_is_power : (es : UnitPowers) → ArePowersInOrder es → Each IsUnitPower es
each_ordered_power_is_power es order = recursion_from_All IsUnitPower es order.powers_right

-- if a fraction is an exponent, the exponent is that fraction, which is in range
pub as_exponent_some : (x v : Fraction) → Some v ≡ as_exponent x → (v ≡ x) × (is_exponent x ≡ true)
as_exponent_some x v h = go (is_exponent x) h where
  go : (b : Bool) → Some v ≡ cond b (Some x) None → (v ≡ x) × (b ≡ true)
  go true h = (same_Some v x h, refl)
  go false h = absurd (cc)

-- if a fraction is not an exponent, it is out of range
pub as_exponent_none : (x : Fraction) → None ≡ as_exponent x → is_exponent x ≡ false
as_exponent_none x h = go (is_exponent x) h where
  go : (b : Bool) → None ≡ cond b (Some x) None → b ≡ false
  go true h = absurd (cc)
  go false h = refl

module _ (law : ReducedFractionLaw) (factor : Factor) where
  is : IsStep (exponent_in factor)
  is = factor_exponent_step factor

  -- the exponent of a name in a merge
  abbrev total : UnitPowers → UnitPowers → Name → Fraction
  total es os q = exponent_sum (at es q) (exponent_in factor (at os q))

  -- the exponent of a name in a merge is in lowest terms
  total_reduced : (es os : UnitPowers) (q : Name) → ArePowersInOrder es → ArePowersInOrder os
      → IsReducedFraction (total es os q)
  total_reduced es os q left right = sum_reduced law (at es q) (exponent_in factor (at os q))
      (exponent_at_is_reduced es q (each_ordered_power_is_power es left)).den_positive
      (is.reduced (at os q) (exponent_at_is_reduced os q (each_ordered_power_is_power os right))).den_positive

  -- the result of a lookup in a merge
  found : (es os : UnitPowers) (q : Name) → ArePowersInOrder es → ArePowersInOrder os
      → find by_bytes q (merge_of_powers (exponent_in factor) es os) ≡ kept (total es os q)
  found es os q left right = find-merged law (exponent_in factor) is es os q (each_ordered_power_is_power es left)
      (each_ordered_power_is_power os right) left.sorted_powers
      right.sorted_powers

  -- the exponent of a name in a merge
  at-merged : (es os : UnitPowers) (q : Name) → ArePowersInOrder es → ArePowersInOrder os
      → at (merge_of_powers (exponent_in factor) es os) q ≡ total es os q
  at-merged es os q left right = ap (λ v. unwrap_or v nothing) (found es os q left right)
      ∙ found_exponent_or_zero (total es os q) (total_reduced es os q left right)

  -- adding the exponent of an absent name does not change an exponent
  total_left : (es os : UnitPowers) (q : Name) → ArePowersInOrder es → at os q ≡ nothing → total es os q ≡ at es q
  total_left es os q left none = ap (λ e. exponent_sum (at es q) (exponent_in factor e)) none
      ∙ ap (exponent_sum (at es q)) is.nothing
      ∙ sum_left law (at es q) (exponent_at_is_reduced es q (each_ordered_power_is_power es left))

  -- merges that give the same exponent to each name are equal
  same_merges : (es os ds ns : UnitPowers) → ArePowersInOrder es → ArePowersInOrder os → ArePowersInOrder ds
      → ArePowersInOrder ns
      → ((q : Name) → total es os q ≡ total ds ns q)
      → merge_of_powers (exponent_in factor) es os ≡ merge_of_powers (exponent_in factor) ds ns
  same_merges es os ds ns left right left2 right2 same =
      same_entries by_bytes nat_list_cmp_total equal_power_names_are_same _ _
      (powers_sorted-merged (exponent_in factor) es os left.sorted_powers right.sorted_powers)
      (powers_sorted-merged (exponent_in factor) ds ns left2.sorted_powers right2.sorted_powers)
      (λ q. found es os q left right ∙ ap kept (same q) ∙ sym (found ds ns q left2 right2))

  -- a merge in range is in order
  pub merged_order : (es os : UnitPowers) → ArePowersInOrder es → ArePowersInOrder os
      → IsTrue (are_exponents (merge_of_powers (exponent_in factor) es os))
      → ArePowersInOrder (merge_of_powers (exponent_in factor) es os)
  merged_order es os left right fits =
      product_powers_order law factor (exponents_in es) (exponents_in os) es os _ (ordered_powers_are_of_map es left)
      (ordered_powers_are_of_map os right)
      (refl, fits)

  -- ---- one power

  -- an exponent out of range is not 0
  not_zero : (e : Fraction) → IsReducedFraction e → is_exponent e ≡ false → is_zero_fraction e ≡ false
  not_zero e reduced fails = go (is_zero_fraction e) refl where
    go : (z : Bool) → is_zero_fraction e ≡ z → is_zero_fraction e ≡ false
    go true zero = let same : is_exponent e ≡ true = ap is_exponent (zero_exponent_is_absent e reduced zero) in
        absurd (cc)
    go false some = some

  -- if the exponent of a name in a merge is out of range, the merge has a fault
  merged_fault : (es os : UnitPowers) (q : Name) → ArePowersInOrder es → ArePowersInOrder os
      → is_exponent (total es os q) ≡ false
      → are_exponents (merge_of_powers (exponent_in factor) es os) ≡ false
  merged_fault es os q left right fails = go (are_exponents (merge_of_powers (exponent_in factor) es os)) refl where
    there : find by_bytes q (merge_of_powers (exponent_in factor) es os) ≡ Some (total es os q)
    there = found es os q left right ∙ nonzero_exponent_is_found (total es os q)
        (not_zero (total es os q) (total_reduced es os q left right) fails)

    go : (b : Bool) → are_exponents (merge_of_powers (exponent_in factor) es os) ≡ b → b ≡ false
    go true all =
        let fits : is_exponent (total es os q) ≡ true =
        found_exponent (merge_of_powers (exponent_in factor) es os) q (total es os q) all there in
        absurd (cc)
    go false some = refl

  module _ (es : UnitPowers) (o : Name × Fraction) (left : ArePowersInOrder es) (right : ArePowersInOrder (alone o))
    where
      -- the new exponent of the name
      abbrev pub sum : Fraction
      sum = exponent_sum (at es o.0) (exponent_in factor o.1)

      -- the merge gives the new exponent to this name, and its old exponent to each other name
      total_own : (q : Name) → q ≡ o.0 → total es (alone o) q ≡ sum
      total_own q same =
          ap₂ (λ n e. exponent_sum (at es n) (exponent_in factor e)) same (exponent_at_own_power q o.0 o.1 [] same)

      total_other : (q : Name) → is_name q o.0 ≡ false → total es (alone o) q ≡ at es q
      total_other q other = total_left es (alone o) q left (exponent_at-past q o.0 o.1 [] other)

      -- if the new exponent is in range, all exponents of the merge are
      pub one_fits : is_exponent sum ≡ true → are_exponents (merge_of_powers (exponent_in factor) es (alone o)) ≡ true
      one_fits fits = go (are_exponents (merge_of_powers (exponent_in factor) es (alone o))) refl where
        old : (q : Name) (v : Fraction) → kept (at es q) ≡ Some v → is_exponent v ≡ true
        old q v there = found_exponent es q v (program_exponents_in_range es left.powers_right)
            (find-exponent_at es q (each_ordered_power_is_power es left) ∙ there)

        in_range : (q : Name) (v : Fraction)
            → find by_bytes q (merge_of_powers (exponent_in factor) es (alone o)) ≡ Some v → is_exponent v ≡ true
        in_range q v there = elim (power_names_are_same_or_apart q o.0) [
          | inl same ↦ new v (ap kept (sym (total_own q same)) ∙ sym (found es (alone o) q left right) ∙ there)
          | inr other ↦ old q v (ap kept (sym (total_other q other)) ∙ sym (found es (alone o) q left right) ∙ there)
        ] where
          new : (v : Fraction) → kept sum ≡ Some v → is_exponent v ≡ true
          new v is = ap is_exponent (sym (found_exponent_value sum v is)) ∙ fits

        go : (b : Bool) → are_exponents (merge_of_powers (exponent_in factor) es (alone o)) ≡ b → b ≡ true
        go true all = refl
        go false some =
            let fault = found_power_fault (merge_of_powers (exponent_in factor) es (alone o))
            (powers_sorted-merged (exponent_in factor) es (alone o) left.sorted_powers right.sorted_powers) some in
            let fits = in_range fault.0 fault.1 fault.2 in
            let fails = fault.3 in
            absurd (cc)

      -- if the new exponent is out of range, so is one of the merge
      pub one_fails : is_exponent sum ≡ false → are_exponents (merge_of_powers (exponent_in factor) es (alone o))
          ≡ false
      one_fails fails = merged_fault es (alone o) o.0 left right (ap is_exponent (total_own o.0 refl) ∙ fails)

      -- a list in order with the new exponent for this name and the old ones for all others is the merge
      pub one_joined : (new : UnitPowers) (v : Option Fraction) → T (is_sorted by_bytes new)
          → ((q : Name) → find by_bytes q new ≡ cond (is_name o.0 q) v (find by_bytes q es)) → v ≡ kept sum
          → new ≡ merge_of_powers (exponent_in factor) es (alone o)
      one_joined new v sorted updated value =
          same_entries by_bytes nat_list_cmp_total equal_power_names_are_same new _ sorted
          (powers_sorted-merged (exponent_in factor) es (alone o) left.sorted_powers right.sorted_powers)
          (λ q. updated q ∙ go q ∙ sym (found es (alone o) q left right))
        where
          go : (q : Name) → cond (is_name o.0 q) v (find by_bytes q es) ≡ kept (total es (alone o) q)
          go q = elim (power_names_are_same_or_apart o.0 q) [
            | inl same ↦ ap (λ n. cond (is_name o.0 n) v (find by_bytes q es)) (sym same)
                ∙ ap (λ b. cond b v (find by_bytes q es)) (power_name_is_itself o.0)
                ∙ value ∙ ap kept (sym (total_own q (sym same)))
            | inr other ↦ ap (λ b. cond b v (find by_bytes q es)) other
                ∙ find-exponent_at es q (each_ordered_power_is_power es left)
                ∙ ap kept (sym (total_other q (power_name_test_is_symmetric o.0 q other)))
          ]

      -- ---- the new exponent of the name

      power : IsUnitPower o
      power = All-head IsUnitPower o [] right.powers_right

      -- the new exponent of an absent name is that of the factor
      new_sum : find by_bytes o.0 es ≡ None → sum ≡ exponent_in factor o.1
      new_sum none = ap (λ v. exponent_sum (unwrap_or v nothing) (exponent_in factor o.1)) none
          ∙ sum_right law (exponent_in factor o.1) (is.reduced o.1 power.exponent.exponent_reduced)

      -- the new exponent of a name that is present is the sum
      old_sum : (e x : Fraction) → find by_bytes o.0 es ≡ Some e → x ≡ exponent_in factor o.1 → sum ≡ exponent_sum e x
      old_sum e x there taken =
          ap (λ v. exponent_sum (unwrap_or v nothing) (exponent_in factor o.1)) there ∙ ap (exponent_sum e) (sym taken)

      -- inserting a power with a new name gives the merge
      pub joined_new : (new : UnitPowers) (x : Fraction) → x ≡ exponent_in factor o.1 → find by_bytes o.0 es ≡ None
          → T (is_sorted by_bytes new)
          → ((q : Name) → find by_bytes q new ≡ cond (is_name o.0 q) (Some x) (find by_bytes q es))
          → (new ≡ merge_of_powers (exponent_in factor) es (alone o))
          × IsTrue (are_exponents (merge_of_powers (exponent_in factor) es (alone o)))
      joined_new new x taken none sorted updated =
          let same : sum ≡ exponent_in factor o.1 = new_sum none in
          let some : is_zero_fraction sum ≡ false = ap is_zero_fraction same ∙ is.zero o.1 ∙ power.not_zero in
          let fits : is_exponent sum ≡ true = ap is_exponent same ∙ is.fits o.1
          ∙ exponent_passes o.1 power.exponent in (
            one_joined new (Some x) sorted updated
                (sym (nonzero_exponent_is_found sum some ∙ ap Some (same ∙ sym taken))),
            one_fits fits,
          )

      -- replacing the exponent of a name that is present by the sum gives the merge
      pub joined_sum : (new : UnitPowers) (e x v : Fraction) → x ≡ exponent_in factor o.1 → find by_bytes o.0 es
          ≡ Some e
          → Some v ≡ as_exponent (exponent_sum e x) → is_zero_fraction v ≡ false → T (is_sorted by_bytes new)
          → ((q : Name) → find by_bytes q new ≡ cond (is_name o.0 q) (Some v) (find by_bytes q es))
          → (new ≡ merge_of_powers (exponent_in factor) es (alone o))
          × IsTrue (are_exponents (merge_of_powers (exponent_in factor) es (alone o)))
      joined_sum new e x v taken there answer some sorted updated =
          let same : sum ≡ v = old_sum e x there taken ∙ sym (as_exponent_some (exponent_sum e x) v answer).0 in
          let fits : is_exponent sum ≡ true = ap is_exponent (old_sum e x there taken)
          ∙ (as_exponent_some (exponent_sum e x) v answer).1 in (
            one_joined new (Some v) sorted updated (sym (ap kept same ∙ nonzero_exponent_is_found v some)),
            one_fits fits,
          )

      -- if the sum is 0, removing the name gives the merge
      pub joined_zero : (new : UnitPowers) (e x v : Fraction) → x ≡ exponent_in factor o.1 → find by_bytes o.0 es
          ≡ Some e
          → Some v ≡ as_exponent (exponent_sum e x) → is_zero_fraction v ≡ true → T (is_sorted by_bytes new)
          → ((q : Name) → find by_bytes q new ≡ cond (is_name o.0 q) None (find by_bytes q es))
          → (new ≡ merge_of_powers (exponent_in factor) es (alone o))
          × IsTrue (are_exponents (merge_of_powers (exponent_in factor) es (alone o)))
      joined_zero new e x v taken there answer zero sorted updated =
          let same : sum ≡ v = old_sum e x there taken ∙ sym (as_exponent_some (exponent_sum e x) v answer).0 in
          let fits : is_exponent sum ≡ true = ap is_exponent (old_sum e x there taken)
          ∙ (as_exponent_some (exponent_sum e x) v answer).1 in (
            one_joined new None sorted updated (sym (ap kept same ∙ ap (λ z. cond z None (Some v)) zero)),
            one_fits fits,
          )

      -- a sum out of range is a fault of the merge
      pub joined_fault : (e x : Fraction) → x ≡ exponent_in factor o.1 → find by_bytes o.0 es ≡ Some e
          → None ≡ as_exponent (exponent_sum e x)
          → IsFalse (are_exponents (merge_of_powers (exponent_in factor) es (alone o)))
      joined_fault e x taken there answer =
          one_fails (ap is_exponent (old_sum e x there taken) ∙ as_exponent_none (exponent_sum e x) answer)

      -- merging the rest of a factor after one of its powers merges the whole factor
      pub merged_next : (more : UnitPowers) → ArePowersInOrder (o ∷ more)
          → IsTrue (are_exponents (merge_of_powers (exponent_in factor) es (alone o)))
          → merge_of_powers (exponent_in factor) (merge_of_powers (exponent_in factor) es (alone o)) more
          ≡ merge_of_powers (exponent_in factor) es (o ∷ more)
      merged_next more all fits = same_merges (merge_of_powers (exponent_in factor) es (alone o)) more es (o ∷ more)
          (merged_order es (alone o) left right fits) (powers_in_order_tail o more all) left all totals
        where
          totals : (q : Name) → total (merge_of_powers (exponent_in factor) es (alone o)) more q ≡ total es (o ∷ more) q
          totals q = elim (power_names_are_same_or_apart q o.0) [
            | inl same ↦ total_left (merge_of_powers (exponent_in factor) es (alone o)) more q
                (merged_order es (alone o) left right fits)
                (exponent_at-below q more (subst (λ n. T (below_all by_bytes n more)) (sym same)
                (and_first _ _ all.sorted_powers)))
                ∙ at-merged es (alone o) q left right ∙ total_own q same
                ∙ sym (ap₂ (λ n e. exponent_sum (at es n) (exponent_in factor e)) same
                (exponent_at_own_power q o.0 o.1 more same))
            | inr other ↦ ap₂ (λ a b. exponent_sum a (exponent_in factor b))
                (at-merged es (alone o) q left right ∙ total_other q other)
                (sym (exponent_at-past q o.0 o.1 more other))
          ]

      -- a fault of one power is a fault of the whole factor
      pub next_fault : (more : UnitPowers) → ArePowersInOrder (o ∷ more)
          → IsFalse (are_exponents (merge_of_powers (exponent_in factor) es (alone o)))
          → IsFalse (are_exponents (merge_of_powers (exponent_in factor) es (o ∷ more)))
      next_fault more all some = go (is_exponent sum) refl where
        go : (b : Bool) → is_exponent sum ≡ b
            → are_exponents (merge_of_powers (exponent_in factor) es (o ∷ more)) ≡ false
        go true fits = let all = one_fits fits in absurd (cc)
        go false fails = merged_fault es (o ∷ more) o.0 left all
            (ap (λ e. is_exponent (exponent_sum (at es o.0) (exponent_in factor e)))
            (exponent_at_own_power o.0 o.0 o.1 more refl)
            ∙ fails)

-- ---- the loop

-- merging the rest into the result so far gives the merge of all powers
pub record IsJoining (factor : Factor) (ps os es rest : UnitPowers) : Type 0 where
  pub done : merge_of_powers (exponent_in factor) es rest ≡ merge_of_powers (exponent_in factor) ps os
  pub left : ArePowersInOrder es
  pub right : ArePowersInOrder rest

-- if no power is left, the result is the merge of all powers
pub joining_powers_end : (factor : Factor) (ps os es rest : UnitPowers) → IsJoining factor ps os es rest → rest ≡ []
    → (es ≡ merge_of_powers (exponent_in factor) ps os) × IsTrue
    (are_exponents (merge_of_powers (exponent_in factor) ps os))
joining_powers_end factor ps os es rest is none =
    let all : es ≡ merge_of_powers (exponent_in factor) ps os =
    sym (no_powers_merged_into (exponent_in factor) es) ∙ ap (merge_of_powers (exponent_in factor) es) (sym none)
    ∙ is.done in
    (all, sym (ap are_exponents all) ∙ program_exponents_in_range es is.left.powers_right)

-- one more power is merged
pub joining_powers_next : ReducedFractionLaw → (factor : Factor) (ps os es rest new more : UnitPowers)
    (o : Name × Fraction)
    → IsJoining factor ps os es rest → rest ≡ o ∷ more
    → (new ≡ merge_of_powers (exponent_in factor) es (alone o))
    × IsTrue (are_exponents (merge_of_powers (exponent_in factor) es (alone o)))
    → IsJoining factor ps os new more
joining_powers_next law factor ps os es rest new more o is parts joined =
    let all : ArePowersInOrder (o ∷ more) = subst ArePowersInOrder parts is.right in
    let right = first_power_in_order o more all in
    record {
      done = ap (λ ds. merge_of_powers (exponent_in factor) ds more) joined.0
          ∙ merged_next law factor es o is.left right more all joined.1
          ∙ ap (merge_of_powers (exponent_in factor) es) (sym parts) ∙ is.done;
      left = subst ArePowersInOrder (sym joined.0) (merged_order law factor es (alone o) is.left right joined.1);
      right = powers_in_order_tail o more all;
    }

-- the first of the remaining powers is one of the program
pub joining_powers_first : (factor : Factor) (ps os es rest more : UnitPowers) (o : Name × Fraction)
    → IsJoining factor ps os es rest → rest ≡ o ∷ more → IsUnitPower o
joining_powers_first factor ps os es rest more o is parts =
    All-head IsUnitPower o more (subst (All IsUnitPower) parts is.right.powers_right)

-- a fault of one power is a fault of the whole merge
pub joining_powers_fault : ReducedFractionLaw → (factor : Factor) (ps os es rest more : UnitPowers)
    (o : Name × Fraction)
    → IsJoining factor ps os es rest → rest ≡ o ∷ more
    → IsFalse (are_exponents (merge_of_powers (exponent_in factor) es (alone o)))
    → IsFalse (are_exponents (merge_of_powers (exponent_in factor) ps os))
joining_powers_fault law factor ps os es rest more o is parts fails =
    let all : ArePowersInOrder (o ∷ more) = subst ArePowersInOrder parts is.right in
    ap are_exponents (sym (ap (merge_of_powers (exponent_in factor) es) (sym parts) ∙ is.done))
    ∙ next_fault law factor es o is.left (first_power_in_order o more all) more all fails

-- a fault is passed on
pub powers_fault_passes_on : (part all : UnitPowers) (fault : ExponentFault) → IsPowersFault fault part
    → (IsFalse (are_exponents part) → IsFalse (are_exponents all)) → IsPowersFault fault all
powers_fault_passes_on part all Range h show = show h
powers_fault_passes_on part all OutOfMemory h show = tt

-- powers in order have no fault
pub ordered_powers_have_no_fault : (ps part all : UnitPowers) → ArePowersInOrder ps → part ≡ ps
    → IsFalse (are_exponents part)
    → IsFalse (are_exponents all)
ordered_powers_have_no_fault ps part all order same fails =
    let fits : are_exponents part ≡ true = ap are_exponents same ∙ program_exponents_in_range ps order.powers_right in
    absurd (cc)
