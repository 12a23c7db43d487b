-- Inserting a power at its place in an ordered list.
use Rattle.std.proofs.Common.{◌≡◌, refl, sym, ap, ap₂, subst, ◌∙◌, arith, Bool, true, false, cond, ◌&&◌, ℕ, suc, None}
use Rattle.std.proofs.Common.{Some, [], ◌∷◌, ◌++◌, ◌+◌, ◌<◌, ◌≤◌, length, take, drop, get_or, All, IsTrue, IsFalse}
use Rattle.std.specs.Prelude.{slice_set}
use Rattle.std.specs.Cmp.{first_so, second_so}
use Rattle.std.specs.Ordering.{match_ordering}
use Rattle.std.specs.declared.cmp.Ordering.{Ordering}
use Rattle.std.specs.declared.cmp.Ordering.TheVariants.{Less, Equal, Greater}
use Rattle.frac128.specs.Fraction.{Fraction}
use Rattle.frac128.specs.Sign.{is_zero_fraction}
use Rattle.quantity.specs.Exponents.{IsUnitPower, exponent_sum, is_exponent}
use Rattle.quantity.specs.Merges.{UnitPowers, are_exponents, as_exponent, merge_of_powers, put_nonzero_power}
use Rattle.quantity.specs.Merges.{unit_power_by}
use Rattle.quantity.specs.Places.{power_place}
use Rattle.quantity.specs.declared.power_merge.Place.TheVariants.{At, Before}
use Rattle.std.proofs.lemmas.List.Elements.{All-head, All-tail}
use Rattle.frac128.specs.Steps.{ReducedFractionLaw}
use Rattle.quantity.proofs.Copies.{no_powers_merged_into}
use Rattle.quantity.proofs.Fractions.{sum_reduced}
use Rattle.quantity.proofs.Joins.{as_exponent_none, as_exponent_some}
use Rattle.quantity.proofs.Ranges.{exponent_fault_stays}
use Rattle.quantity.proofs.MergedPowers.{IsStep}
use Rattle.quantity.proofs.Names.{Name, by_bytes}

-- ---- lists in two parts

-- the first powers, as many as the front has, are the front
take_front_powers : (front : UnitPowers) (rest : UnitPowers) → take (length front) (front ++ rest) ≡ front
take_front_powers [] rest = refl
take_front_powers (e ∷ front) rest = ap (λ es. e ∷ es) (take_front_powers front rest)

drop_front_powers : (front : UnitPowers) (rest : UnitPowers) → drop (length front) (front ++ rest) ≡ rest
drop_front_powers [] rest = refl
drop_front_powers (e ∷ front) rest = drop_front_powers front rest

drop_next_power : (front : UnitPowers) (p : Name × Fraction) (rest : UnitPowers)
    → drop (suc (length front)) (front ++ p ∷ rest) ≡ rest
drop_next_power [] p rest = refl
drop_next_power (e ∷ front) p rest = drop_next_power front p rest

get_power_after_front : (front : UnitPowers) (p : Name × Fraction) (rest : UnitPowers) (d : Name × Fraction)
    → get_or (front ++ p ∷ rest) (length front) d ≡ p
get_power_after_front [] p rest d = refl
get_power_after_front (e ∷ front) p rest d = get_power_after_front front p rest d

set_power_after_front : (front : UnitPowers) (p : Name × Fraction) (rest : UnitPowers) (x : Name × Fraction)
    → slice_set (front ++ p ∷ rest) (length front) x ≡ front ++ x ∷ rest
set_power_after_front [] p rest x = refl
set_power_after_front (e ∷ front) p rest x = ap (λ es. e ∷ es) (set_power_after_front front p rest x)

-- the length of a front is at most that of the list
front_powers_within : (front rest : UnitPowers) → length front ≤ length (front ++ rest)
front_powers_within [] rest = omega arith
front_powers_within (e ∷ front) rest = let more = front_powers_within front rest in omega (arith, more)

front_powers_below : (front : UnitPowers) (p : Name × Fraction) (rest : UnitPowers)
    → length front < length (front ++ p ∷ rest)
front_powers_below [] p rest = omega arith
front_powers_below (e ∷ front) p rest = let more = front_powers_below front p rest in omega (arith, more)

-- if all powers have a property, so does one after a front
power_after_front : (front : UnitPowers) (p : Name × Fraction) (rest : UnitPowers) → All IsUnitPower (front ++ p ∷ rest)
    → IsUnitPower p
power_after_front [] p rest all = All-head IsUnitPower p rest all
power_after_front (e ∷ front) p rest all = power_after_front front p rest
    (All-tail IsUnitPower e (front ++ p ∷ rest) all)

-- if all exponents of a list are in range, so are those of a front
front_exponents_fit : (front rest : UnitPowers) → are_exponents (front ++ rest) ≡ true → are_exponents front ≡ true
front_exponents_fit [] rest all = refl
front_exponents_fit (e ∷ front) rest all =
    ap₂ (λ a b. a && b) (first_so (is_exponent e.1) _ all)
    (front_exponents_fit front rest (second_so (is_exponent e.1) _ all))

rest_exponents_fit : (front rest : UnitPowers) → are_exponents (front ++ rest) ≡ true → are_exponents rest ≡ true
rest_exponents_fit [] rest all = all
rest_exponents_fit (e ∷ front) rest all = rest_exponents_fit front rest (second_so (is_exponent e.1) _ all)

both_exponents_fit : (front rest : UnitPowers) → are_exponents front ≡ true → are_exponents rest ≡ true
    → are_exponents (front ++ rest) ≡ true
both_exponents_fit [] rest all more = more
both_exponents_fit (e ∷ front) rest all more =
    ap₂ (λ a b. a && b) (first_so (is_exponent e.1) _ all)
    (both_exponents_fit front rest (second_so (is_exponent e.1) _ all) more)

pub put_exponents_fit : (p : Name × Fraction) (rest : UnitPowers) → is_exponent p.1 ≡ true → are_exponents rest ≡ true
    → are_exponents (put_nonzero_power p rest) ≡ true
put_exponents_fit p rest fits all = go (is_zero_fraction p.1)
  where
    go : (z : Bool) → are_exponents (cond z rest (p ∷ rest)) ≡ true
    go true = all
    go false = ap₂ (λ a b. a && b) fits all

-- ---- what a merge with one power is

-- the power after the front has the name, and the merge adds to its exponent
pub record IsAt (step : Fraction → Fraction) (o : Name × Fraction) (es : UnitPowers) (n i : ℕ) : Type 0 where
  pub front : UnitPowers
  pub power : Name × Fraction
  pub rest : UnitPowers
  pub parts : es ≡ front ++ power ∷ rest
  pub place : n + length front ≡ i
  pub merge : merge_of_powers step es (o ∷ []) ≡ front ++ put_nonzero_power (power.0, exponent_sum power.1 (step o.1))
      rest

-- no power has the name, and the merge has one more power
pub record IsBefore (step : Fraction → Fraction) (o : Name × Fraction) (es : UnitPowers) (n i : ℕ) : Type 0 where
  pub front : UnitPowers
  pub rest : UnitPowers
  pub parts : es ≡ front ++ rest
  pub place : n + length front ≡ i
  pub merge : merge_of_powers step es (o ∷ []) ≡ front ++ unit_power_by step o ∷ rest

-- equal places have equal indices
equal_power_places : (n i : ℕ) → At n ≡ At i → n + 0 ≡ i
equal_power_places n i h = let e : n ≡ i = cc in omega (arith, e)

equal_power_places_before : (n i : ℕ) → Before n ≡ Before i → n + 0 ≡ i
equal_power_places_before n i h = let e : n ≡ i = cc in omega (arith, e)

module _ (step : Fraction → Fraction) (o : Name × Fraction) where
  -- the merge, determined by the order of the first name and the new one
  abbrev by_order : Ordering → Name × Fraction → UnitPowers → UnitPowers
  by_order r p ps =
      match_ordering r (p ∷ merge_of_powers step ps (o ∷ []))
      (put_nonzero_power (p.0, exponent_sum p.1 (step o.1)) (merge_of_powers step ps []))
      (unit_power_by step o ∷ merge_of_powers step (p ∷ ps) [])

  -- if the name is at an index, the merge changes the power at that index
  pub found_at : (es : UnitPowers) (n i : ℕ) → power_place n o.0 es ≡ At i → IsAt step o es n i
  found_at [] n i h = absurd (cc)
  found_at (p ∷ ps) n i h = go (by_bytes p.0 o.0) refl h (found_at ps (suc n) i)
    where
      go : (r : Ordering) → by_bytes p.0 o.0 ≡ r → match_ordering r (power_place (suc n) o.0 ps) (At n)
          (Before n) ≡ At i
          → (power_place (suc n) o.0 ps ≡ At i → IsAt step o ps (suc n) i) → IsAt step o (p ∷ ps) n i
      go Less is h rest =
          let more = rest h in
          let place = more.place in
          record {
            front = p ∷ more.front;
            power = more.power;
            rest = more.rest;
            parts = ap (λ es. p ∷ es) more.parts;
            place = omega (arith, place);
            merge = ap (λ r. by_order r p ps) is ∙ ap (λ es. p ∷ es) more.merge;
          }
      go Equal is h rest = record {
        front = [];
        power = p;
        rest = ps;
        parts = refl;
        place = equal_power_places n i h;
        merge = ap (λ r. by_order r p ps) is
            ∙ ap (put_nonzero_power (p.0, exponent_sum p.1 (step o.1))) (no_powers_merged_into step ps);
      }
      go Greater is h rest = absurd (cc)

  -- if the name belongs before an index, the merge inserts the power at that index
  pub found_before : (es : UnitPowers) (n i : ℕ) → power_place n o.0 es ≡ Before i → IsBefore step o es n i
  found_before [] n i h = record {
    front = [];
    rest = [];
    parts = refl;
    place = equal_power_places_before n i h;
    merge = refl;
  }
  found_before (p ∷ ps) n i h = go (by_bytes p.0 o.0) refl h (found_before ps (suc n) i)
    where
      go : (r : Ordering) → by_bytes p.0 o.0 ≡ r
          → match_ordering r (power_place (suc n) o.0 ps) (At n) (Before n) ≡ Before i
          → (power_place (suc n) o.0 ps ≡ Before i → IsBefore step o ps (suc n) i) → IsBefore step o (p ∷ ps) n i
      go Less is h rest =
          let more = rest h in
          let place = more.place in
          record {
            front = p ∷ more.front;
            rest = more.rest;
            parts = ap (λ es. p ∷ es) more.parts;
            place = omega (arith, place);
            merge = ap (λ r. by_order r p ps) is ∙ ap (λ es. p ∷ es) more.merge;
          }
      go Equal is h rest = absurd (cc)
      go Greater is h rest = record {
        front = [];
        rest = p ∷ ps;
        parts = refl;
        place = equal_power_places_before n i h;
        merge = ap (λ r. by_order r p ps) is ∙ ap (λ es. unit_power_by step o ∷ es)
            (no_powers_merged_into step (p ∷ ps));
      }

  -- ---- what becomes of the list

  module _ (es : UnitPowers) (i : ℕ) where
    -- inserting a power with an absent name
    module _ (h : power_place 0 o.0 es ≡ Before i) where
      before : IsBefore step o es 0 i
      before = found_before es 0 i h

      before_length : length before.front ≡ i
      before_length = let place = before.place in omega (arith, place)

      pub before_within : i ≤ length es
      before_within = subst (λ n. n ≤ length es) before_length
          (subst (λ ds. length before.front ≤ length ds) (sym before.parts)
          (front_powers_within before.front before.rest))

      pub put_before : (new : UnitPowers) (x : Name × Fraction) → new ≡ take i es ++ x ∷ drop i es
          → x ≡ unit_power_by step o → are_exponents es ≡ true → is_exponent (step o.1) ≡ true
          → (new ≡ merge_of_powers step es (o ∷ [])) × IsTrue (are_exponents (merge_of_powers step es (o ∷ [])))
      put_before new x put same all fits =
          let front : take i es ≡ before.front =
          ap₂ take (sym before_length) before.parts ∙ take_front_powers before.front before.rest in
          let rest : drop i es ≡ before.rest =
          ap₂ drop (sym before_length) before.parts ∙ drop_front_powers before.front before.rest in
          let parts = sym (ap are_exponents before.parts) ∙ all in
          let fit : are_exponents (unit_power_by step o ∷ before.rest) ≡ true =
          ap₂ (λ a b. a && b) fits (rest_exponents_fit before.front before.rest parts) in (
            put ∙ ap₂ (λ a b. a ++ x ∷ b) front rest ∙ ap (λ e. before.front ++ e ∷ before.rest) same
                ∙ sym before.merge,
            ap are_exponents before.merge
                ∙ both_exponents_fit before.front (unit_power_by step o ∷ before.rest)
                (front_exponents_fit before.front before.rest parts) fit,
          )

    -- replacing the exponent of a name that is present by a sum
    module _ (h : power_place 0 o.0 es ≡ At i) where
      there : IsAt step o es 0 i
      there = found_at es 0 i h

      there_length : length there.front ≡ i
      there_length = let place = there.place in omega (arith, place)

      pub place_within : i < length es
      place_within = subst (λ n. n < length es) there_length
          (subst (λ ds. length there.front < length ds) (sym there.parts)
          (front_powers_below there.front there.power there.rest))

      -- the power read at the index is the one with the name
      power_is : (q : Name × Fraction) → q ≡ get_or es i q → q ≡ there.power
      power_is q at_place = at_place
          ∙ ap₂ (λ ds n. get_or ds n q) there.parts (sym there_length)
          ∙ get_power_after_front there.front there.power there.rest q

      -- powers read at the same index are equal
      pub one_place : (q r : Name × Fraction) → q ≡ get_or es i q → r ≡ get_or es i r → q ≡ r
      one_place q r at_place at_place_too = power_is q at_place ∙ sym (power_is r at_place_too)

      module _ (q : Name × Fraction) (x : Fraction) (at_place : q ≡ get_or es i q) (taken : x ≡ step o.1) where
        abbrev sum : Fraction
        sum = exponent_sum q.1 x

        merge_is : merge_of_powers step es (o ∷ []) ≡ there.front ++ put_nonzero_power (q.0, sum) there.rest
        merge_is = there.merge
            ∙ ap₂ (λ p e. there.front ++ put_nonzero_power (p.0, exponent_sum p.1 e) there.rest)
            (sym (power_is q at_place))
            (sym taken)

        merge_fits : are_exponents es ≡ true → is_exponent sum ≡ true
            → are_exponents (merge_of_powers step es (o ∷ [])) ≡ true
        merge_fits all fits =
            let parts = sym (ap are_exponents there.parts) ∙ all in
            ap are_exponents merge_is
            ∙ both_exponents_fit there.front (put_nonzero_power (q.0, sum) there.rest)
            (front_exponents_fit there.front (there.power ∷ there.rest) parts)
            (put_exponents_fit (q.0, sum) there.rest fits
            (second_so (is_exponent there.power.1) _ (rest_exponents_fit there.front (there.power ∷ there.rest) parts)))

        pub put_zero : (new : UnitPowers) (v : Fraction) → new ≡ take i es ++ drop (suc i) es
            → Some v ≡ as_exponent sum → is_zero_fraction v ≡ true → are_exponents es ≡ true
            → (new ≡ merge_of_powers step es (o ∷ [])) × IsTrue (are_exponents (merge_of_powers step es (o ∷ [])))
        put_zero new v put answer zero all =
            let front : take i es ≡ there.front = ap₂ take (sym there_length) there.parts
            ∙ take_front_powers there.front (there.power ∷ there.rest) in
            let rest : drop (suc i) es ≡ there.rest =
            ap₂ (λ n ds. drop (suc n) ds) (sym there_length) there.parts
            ∙ drop_next_power there.front there.power there.rest in
            let some = as_exponent_some sum v answer in (
              put ∙ ap₂ (λ a b. a ++ b) front rest
                  ∙ ap (λ z. there.front ++ cond z there.rest ((q.0, sum) ∷ there.rest))
                  (sym (ap is_zero_fraction (sym some.0) ∙ zero))
                  ∙ sym merge_is,
              merge_fits all some.1,
            )

        pub put_sum : (new : UnitPowers) (v : Fraction) → new ≡ slice_set es i (q.0, v)
            → Some v ≡ as_exponent sum → is_zero_fraction v ≡ false → are_exponents es ≡ true
            → (new ≡ merge_of_powers step es (o ∷ [])) × IsTrue (are_exponents (merge_of_powers step es (o ∷ [])))
        put_sum new v put answer stays all =
            let some = as_exponent_some sum v answer in (
              put
                  ∙ ap₂ (λ ds n. slice_set ds n (q.0, v)) there.parts (sym there_length)
                  ∙ set_power_after_front there.front there.power there.rest (q.0, v)
                  ∙ ap (λ e. there.front ++ (q.0, e) ∷ there.rest) some.0
                  ∙ ap (λ z. there.front ++ cond z there.rest ((q.0, sum) ∷ there.rest))
                  (sym (ap is_zero_fraction (sym some.0) ∙ stays))
                  ∙ sym merge_is,
              merge_fits all some.1,
            )

        pub put_fault : ReducedFractionLaw → IsStep step → All IsUnitPower es → IsUnitPower o → None ≡ as_exponent sum
            → IsFalse (are_exponents (merge_of_powers step es (o ∷ [])))
        put_fault law known all last answer =
            let own : IsUnitPower there.power =
            power_after_front there.front there.power there.rest (subst (All IsUnitPower) there.parts all) in
            let reduced = sum_reduced law there.power.1 (step o.1) own.exponent.exponent_reduced.den_positive
            (known.reduced o.1 last.exponent.exponent_reduced).den_positive in
            let fails : is_exponent (exponent_sum there.power.1 (step o.1)) ≡ false =
            ap₂ (λ (p : Name × Fraction) e. is_exponent (exponent_sum p.1 e)) (sym (power_is q at_place)) (sym taken)
            ∙ as_exponent_none sum answer in
            ap are_exponents there.merge
            ∙ exponent_fault_stays there.front (there.power.0, exponent_sum there.power.1 (step o.1)) there.rest reduced
            fails
