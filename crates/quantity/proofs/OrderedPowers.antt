-- Lists in order as the exponents that a function gives to names.
use Rattle.std.proofs.Common.{◌≡◌, refl, sym, ap, subst, ◌∙◌, Bool, true, false, cond, not, ◌&&◌, ◌||◌, T, List, []}
use Rattle.std.proofs.Common.{◌∷◌, map, inl, inr, Option, None, Some, filter, unsigned_abs, nat_le}
use Rattle.std.specs.Prelude.{unwrap_or}
use Rattle.std.specs.Cmp.{first_so, second_so}
use Rattle.std.specs.Cmp.Lexicographic.{nat_list_cmp_total}
use Rattle.std.specs.FinMap as map_of
use Rattle.std.specs.FinMap.Entries.{find, is_sorted}
use Rattle.std.specs.List.{AllByRecursion as Each, list_all, list_any}
use Rattle.std.proofs.lemmas.Bool.{leb-true}
use Rattle.std.proofs.lemmas.Option.{same_Some}
use Rattle.frac128.specs.Fraction.{Fraction, IsReducedFraction}
use Rattle.frac128.specs.Sign.{is_zero_fraction}
use Rattle.quantity.specs.Exponents.{IsExponent, IsUnitPower, exponent_of, exponents_by, is_exponent}
use Rattle.quantity.specs.Merges.{UnitPowers, are_exponents, exponents_in}
use Rattle.quantity.proofs.Fractions.{found_exponent_or_zero, kept, nonzero_exponent_is_found, nothing}
use Rattle.quantity.proofs.Fractions.{zero_exponent_is_absent}
use Rattle.quantity.proofs.Names.{Name, and_first, by_bytes, equal_power_names_are_same, find_below_powers_is_none}
use Rattle.quantity.proofs.Names.{is_name, power_name_is_itself, power_names_are_same_or_apart, and_second}

-- the exponent of a name in a list, or 0
abbrev pub at : UnitPowers → Name → Fraction
at powers q = unwrap_or (find by_bytes q powers) nothing

-- the powers that f gives to names, without those whose exponent is 0
abbrev given : (Name → Fraction) → List Name → UnitPowers
given f names = filter (λ e. not (is_zero_fraction e.1)) (map (λ n. (n, f n)) names)

-- a lookup skips a power with another name
pub find_past_power : (q n : Name) (v : Fraction) (es : UnitPowers) → is_name q n ≡ false
    → find by_bytes q ((n, v) ∷ es) ≡ find by_bytes q es
find_past_power q n v es other = ap (λ b. cond b (Some v) (find by_bytes q es)) other

-- a lookup finds the name of the first power
pub find_first_power : (q : Name) (v : Fraction) (es : UnitPowers) → find by_bytes q ((q, v) ∷ es) ≡ Some v
find_first_power q v es = ap (λ b. cond b (Some v) (find by_bytes q es)) (power_name_is_itself q)

-- a choice between `None` and `None` is `None`
no_exponent_in_choice : (b : Bool) (v : Option Fraction) → v ≡ None → cond b v None ≡ None
no_exponent_in_choice true v e = e
no_exponent_in_choice false v e = refl

-- the result of a lookup among the powers that a function gives
find-given_power : (f : Name → Fraction) (names : List Name) (q : Name)
    → find by_bytes q (given f names) ≡ cond (list_any (is_name q) names) (kept (f q)) None
find-given_power f [] q = refl
find-given_power f (n ∷ ns) q =
    let rest = find-given_power f ns q in
    elim (power_names_are_same_or_apart q n) [
      | inl same ↦ subst
          (λ m. find by_bytes q (cond (not (is_zero_fraction (f m))) ((m, f m) ∷ given f ns) (given f ns))
          ≡ cond (is_name q m || list_any (is_name q) ns) (kept (f q)) None) same
          (own (is_zero_fraction (f q)) refl rest)
      | inr other ↦ another (is_zero_fraction (f n)) other ∙ rest
          ∙ ap (λ b. cond (b || list_any (is_name q) ns) (kept (f q)) None) (sym other)
    ]
  where
    own : (z : Bool) → is_zero_fraction (f q) ≡ z
        → find by_bytes q (given f ns) ≡ cond (list_any (is_name q) ns) (kept (f q)) None
        → find by_bytes q (cond (not (is_zero_fraction (f q))) ((q, f q) ∷ given f ns) (given f ns))
        ≡ cond (is_name q q || list_any (is_name q) ns) (kept (f q)) None
    own true e rest =
        let gone : kept (f q) ≡ None = ap (λ z. cond z None (Some (f q))) e in
        ap (λ z. find by_bytes q (cond (not z) ((q, f q) ∷ given f ns) (given f ns))) e
        ∙ rest ∙ no_exponent_in_choice _ _ gone
        ∙ sym (no_exponent_in_choice (is_name q q || list_any (is_name q) ns) _ gone)
    own false e rest =
        let stays : kept (f q) ≡ Some (f q) = nonzero_exponent_is_found (f q) e in
        ap (λ z. find by_bytes q (cond (not z) ((q, f q) ∷ given f ns) (given f ns))) e
        ∙ find_first_power q (f q) (given f ns)
        ∙ sym stays ∙ sym (ap (λ b. cond (b || list_any (is_name q) ns) (kept (f q)) None) (power_name_is_itself q))

    another : (z : Bool) → is_name q n ≡ false
        → find by_bytes q (cond (not z) ((n, f n) ∷ given f ns) (given f ns)) ≡ find by_bytes q (given f ns)
    another true other = refl
    another false other = find_past_power q n (f n) (given f ns) other

-- the properties of a function that gives exponents to names
pub record GivesNames (f : Name → Fraction) (names : List Name) : Type 0 where
  pub reduced : (q : Name) → IsReducedFraction (f q)
  pub others : (q : Name) → list_any (is_name q) names ≡ false → f q ≡ nothing

-- the result of a lookup in the map of a function
pub get-exponents_by : (f : Name → Fraction) (names : List Name) (q : Name) → GivesNames f names
    → map_of.get (exponents_by f names) q ≡ kept (f q)
unfolding exponents_by
get-exponents_by f names q is =
    map_of.get-from_entries nat_list_cmp_total (given f names) q ∙ find-given_power f names q
    ∙ go (list_any (is_name q) names) refl
  where
    go : (b : Bool) → list_any (is_name q) names ≡ b → cond b (kept (f q)) None ≡ kept (f q)
    go true e = refl
    go false e = sym (ap kept (is.others q e))

-- the exponent of a name in the map of a function is the one that the function gives
pub exponent_of-exponents_by : (f : Name → Fraction) (names : List Name) (q : Name) → GivesNames f names
    → exponent_of (exponents_by f names) q ≡ f q
exponent_of-exponents_by f names q is = ap (λ o. unwrap_or o nothing) (get-exponents_by f names q is)
    ∙ found_exponent_or_zero (f q) (is.reduced q)

-- a list in order has the exponents that a function gives
pub record Lists (f : Name → Fraction) (es : UnitPowers) : Type 0 where
  pub sorted : T (is_sorted by_bytes es)
  pub found : (q : Name) → find by_bytes q es ≡ kept (f q)

-- a list with the exponents that a function gives is the map of that function
pub listed_powers_map : (f : Name → Fraction) (names : List Name) (es : UnitPowers) → GivesNames f names → Lists f es
    → exponents_in es ≡ exponents_by f names
listed_powers_map f names es is lists = map_of.same_map nat_list_cmp_total equal_power_names_are_same _ _ (λ q.
    map_of.get-from_sorted by_bytes es q lists.sorted ∙ lists.found q ∙ sym (get-exponents_by f names q is))

-- ---- exponents out of range in the list and in the map

-- a nonzero exponent that is found is the exponent
pub found_exponent_value : (e v : Fraction) → kept e ≡ Some v → e ≡ v
found_exponent_value e v = go (is_zero_fraction e)
  where
    go : (z : Bool) → cond z None (Some e) ≡ Some v → e ≡ v
    go true h = absurd (cc)
    go false h = same_Some e v h

-- if each name passes a test, all names of a list pass it
exponent_names_all_pass : (g : Name → Bool) (names : List Name) → ((q : Name) → g q ≡ true) → list_all g names ≡ true
exponent_names_all_pass g [] h = refl
exponent_names_all_pass g (n ∷ ns) h = ap (λ b. b && list_all g ns) (h n) ∙ exponent_names_all_pass g ns h

-- if a name of a list fails a test, not all names pass it
exponent_name_fails : (g : Name → Bool) (names : List Name) (q : Name) → list_any (is_name q) names ≡ true → g q ≡ false
    → list_all g names ≡ false
exponent_name_fails g [] q there fails = absurd (cc)
exponent_name_fails g (n ∷ ns) q there fails = elim (power_names_are_same_or_apart q n) [
  | inl same ↦ ap (λ b. b && list_all g ns) (ap g (sym same) ∙ fails)
  | inr other ↦ none_left (g n)
      (exponent_name_fails g ns q (sym (ap (λ b. b || list_any (is_name q) ns) other) ∙ there) fails)
]
  where
    none_left : (b : Bool) → list_all g ns ≡ false → (b && list_all g ns) ≡ false
    none_left true h = h
    none_left false h = refl

-- the exponent that a lookup finds is one if all exponents of the list are in range
pub found_exponent : (es : UnitPowers) (q : Name) (v : Fraction) → are_exponents es ≡ true → find by_bytes q es ≡ Some v
    → is_exponent v ≡ true
found_exponent [] q v all is = absurd (cc)
found_exponent (e ∷ es) q v all is =
    go (is_name q e.0) is (λ rest. found_exponent es q v (second_so (is_exponent e.1) _ all) rest)
  where
    go : (b : Bool) → cond b (Some e.1) (find by_bytes q es) ≡ Some v
        → (find by_bytes q es ≡ Some v → is_exponent v ≡ true)
        → is_exponent v ≡ true
    go true is rest = subst (λ x. is_exponent x ≡ true) (same_Some e.1 v is) (first_so _ _ all)
    go false is rest = rest is

-- a power that a lookup finds in the rest of an ordered list is also found in the list
found_power_after_first : (e : Name × Fraction) (es : UnitPowers) → T (is_sorted by_bytes (e ∷ es))
    → (q : Name) (v : Fraction)
    → find by_bytes q es ≡ Some v → find by_bytes q (e ∷ es) ≡ Some v
found_power_after_first e es sorted q v found = elim (power_names_are_same_or_apart q e.0) [
  | inl same ↦ (let gone : find by_bytes q es ≡ None = ap (λ k. find by_bytes k es) same
      ∙ find_below_powers_is_none e.0 es (and_first _ _ sorted) in absurd (cc))
  | inr other ↦ find_past_power q e.0 e.1 es other ∙ found
]

-- if a power of an ordered list is out of range, a lookup finds it
pub found_power_fault : (es : UnitPowers) → T (is_sorted by_bytes es) → are_exponents es ≡ false
    → (q : Name) × (v : Fraction) × (find by_bytes q es ≡ Some v) × (is_exponent v ≡ false)
found_power_fault [] sorted some = absurd (cc)
found_power_fault (e ∷ es) sorted some = go (is_exponent e.1) refl some
    (λ rest. found_power_fault es (and_second _ _ sorted) rest)
  where
    go : (b : Bool) → is_exponent e.1 ≡ b → (b && are_exponents es) ≡ false
        → (are_exponents es ≡ false → (q : Name) × (v : Fraction) × (find by_bytes q es ≡ Some v)
        × (is_exponent v ≡ false))
        → (q : Name) × (v : Fraction) × (find by_bytes q (e ∷ es) ≡ Some v) × (is_exponent v ≡ false)
    go true is some rest =
        let fault = rest some in
        (fault.0, fault.1, found_power_after_first e es sorted fault.0 fault.1 fault.2, fault.3)
    go false is some rest = (e.0, e.1, find_first_power e.0 e.1 es, is)

-- the range tests of the list and of the names agree
pub listed_powers_range : (f : Name → Fraction) (names : List Name) (es : UnitPowers) → GivesNames f names → Lists f es
    → are_exponents es ≡ list_all (λ q. is_exponent (f q)) names
listed_powers_range f names es is lists = go (are_exponents es) refl
  where
    inside : are_exponents es ≡ true → (q : Name) (z : Bool) → is_zero_fraction (f q) ≡ z → is_exponent (f q) ≡ true
    inside all q true none = ap is_exponent (zero_exponent_is_absent (f q) (is.reduced q) none)
    inside all q false some = found_exponent es q (f q) all (lists.found q ∙ nonzero_exponent_is_found (f q) some)

    outside : (q : Name) (v : Fraction) → find by_bytes q es ≡ Some v → is_exponent v ≡ false
        → list_all (λ q. is_exponent (f q)) names ≡ false
    outside q v found fails =
        let same : kept (f q) ≡ Some v = sym (lists.found q) ∙ found in
        let value : f q ≡ v = found_exponent_value (f q) v same in
        exponent_name_fails (λ q. is_exponent (f q)) names q (there (list_any (is_name q) names) refl value fails)
        (ap is_exponent value ∙ fails)
      where
        there : (b : Bool) → list_any (is_name q) names ≡ b → f q ≡ v → is_exponent v ≡ false
            → list_any (is_name q) names ≡ true
        there true e value fails = e
        there false e value fails = let zero : v ≡ nothing =
            sym value ∙ is.others q e in absurd (cc (ap is_exponent zero))

    go : (b : Bool) → are_exponents es ≡ b → are_exponents es ≡ list_all (λ q. is_exponent (f q)) names
    go true all = all ∙ sym
        (exponent_names_all_pass (λ q. is_exponent (f q)) names (λ q. inside all q (is_zero_fraction (f q)) refl))
    go false some =
        let fault = found_power_fault es lists.sorted some in
        some ∙ sym (outside fault.0 fault.1 fault.2 fault.3)

-- ---- each power of the list is one of the program

-- a property implied by another holds for each power if the other does
each_power_weaker : (P Q : Name × Fraction → Type 0) (es : UnitPowers) → ((e : Name × Fraction) → P e → Q e) → Each P es
    → Each Q es
each_power_weaker P Q [] h all = tt
each_power_weaker P Q (e ∷ es) h all = (h e all.0, each_power_weaker P Q es h all.1)

-- a lookup finds each power of an ordered list by its name
each_power_is_found : (es : UnitPowers) → T (is_sorted by_bytes es) → Each (λ e. find by_bytes e.0 es ≡ Some e.1) es
each_power_is_found [] sorted = tt
each_power_is_found (e ∷ es) sorted = (
  find_first_power e.0 e.1 es,
  each_power_weaker _ _ es (λ d found. found_power_after_first e es sorted d.0 d.1 found)
      (each_power_is_found es (and_second _ _ sorted)),
)

-- a fraction in lowest terms that passes the range test is an exponent
exponent_fits : (e : Fraction) → IsReducedFraction e → is_exponent e ≡ true → IsExponent e
exponent_fits e is h = record {
  exponent_reduced = is;
  num_fits = leb-true _ _ (first_so (nat_le (unsigned_abs e.num) 32767) (nat_le e.den 60) h);
  den_fits = leb-true _ _ (second_so (nat_le (unsigned_abs e.num) 32767) (nat_le e.den 60) h);
}

-- powers with the exponents that a function gives are powers of the program if they are in range
pub listed_powers_are_powers : (f : Name → Fraction) (names : List Name) (es : UnitPowers) → GivesNames f names
    → Lists f es
    → are_exponents es ≡ true
    → Each IsUnitPower es
listed_powers_are_powers f names es is lists all = go es (each_power_is_found es lists.sorted) all
  where
    some_is : (q : Name) (v : Fraction) (z : Bool) → is_zero_fraction (f q) ≡ z → cond z None (Some (f q)) ≡ Some v
        → is_zero_fraction v ≡ false
    some_is q v true e h = absurd (cc)
    some_is q v false e h = ap is_zero_fraction (sym (same_Some (f q) v h)) ∙ e

    power : (e : Name × Fraction) → find by_bytes e.0 es ≡ Some e.1 → is_exponent e.1 ≡ true → IsUnitPower e
    power e found fits =
        let same : kept (f e.0) ≡ Some e.1 = sym (lists.found e.0) ∙ found in
        record {
          exponent = exponent_fits e.1
              (subst IsReducedFraction (found_exponent_value (f e.0) e.1 same) (is.reduced e.0)) fits;
          not_zero = some_is e.0 e.1 (is_zero_fraction (f e.0)) refl same;
        }

    go : (ds : UnitPowers) → Each (λ e. find by_bytes e.0 es ≡ Some e.1) ds → are_exponents ds ≡ true
        → Each IsUnitPower ds
    go [] found all = tt
    go (d ∷ ds) found all = (power d found.0 (first_so _ _ all), go ds found.1 (second_so (is_exponent d.1) _ all))
