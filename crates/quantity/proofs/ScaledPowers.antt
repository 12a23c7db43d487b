-- Lists of powers with their exponents multiplied.
use Rattle.std.proofs.Common.{◌≡◌, refl, sym, ap, subst, ◌∙◌, Bool, true, false, cond, T, [], ◌∷◌, ◌<◌, None, Some, inl}
use Rattle.std.proofs.Common.{inr}
use Rattle.std.specs.FinMap.Entries.{below_all, find, is_sorted}
use Rattle.frac128.specs.Fraction.{Fraction}
use Rattle.frac128.specs.Steps.{ReducedFractionLaw}
use Rattle.frac128.specs.Sign.{is_zero_fraction}
use Rattle.quantity.specs.Exponents.{exponent_product}
use Rattle.quantity.specs.Merges.{UnitPowers, scaled_powers}
use Rattle.quantity.proofs.Fractions.{kept, nonzero_exponent_is_found, product_zero}
use Rattle.quantity.proofs.OrderedPowers.{at, find_past_power}
use Rattle.quantity.proofs.MergedPowers.{exponent_at-below, exponent_at-past, exponent_at_own_power, find_own_power}
use Rattle.quantity.proofs.MergedPowers.{powers_below-put, powers_sorted-put}
use Rattle.quantity.proofs.Names.{Name, and_first, and_second, by_bytes, is_name, power_names_are_same_or_apart}

-- a name below all powers is below the scaled powers
powers_below-scaled : (by : Fraction) (x : Name) (ps : UnitPowers) → T (below_all by_bytes x ps)
    → T (below_all by_bytes x (scaled_powers by ps))
powers_below-scaled by x [] h = tt
powers_below-scaled by x (p ∷ ps) h =
    powers_below-put x (p.0, exponent_product p.1 by) (scaled_powers by ps) (and_first _ _ h)
    (powers_below-scaled by x ps (and_second _ _ h))

-- scaling preserves the order of sorted powers
pub powers_sorted-scaled : (by : Fraction) (ps : UnitPowers) → T (is_sorted by_bytes ps)
    → T (is_sorted by_bytes (scaled_powers by ps))
powers_sorted-scaled by [] h = tt
powers_sorted-scaled by (p ∷ ps) h =
    powers_sorted-put (p.0, exponent_product p.1 by) (scaled_powers by ps)
    (powers_below-scaled by p.0 ps (and_first _ _ h))
    (powers_sorted-scaled by ps (and_second _ _ h))

-- the exponent of each name is the product
pub find-scaled_power : ReducedFractionLaw → (by : Fraction) (ps : UnitPowers) (q : Name) → 0 < by.den
    → T (is_sorted by_bytes ps)
    → find by_bytes q (scaled_powers by ps) ≡ kept (exponent_product (at ps q) by)
find-scaled_power law by [] q some sorted = sym (ap kept (product_zero law by some))
find-scaled_power law by (p ∷ ps) q some sorted =
    let rest = find-scaled_power law by ps q some (and_second _ _ sorted) in
    elim (power_names_are_same_or_apart q p.0) [
      | inl same ↦ own same (is_zero_fraction (exponent_product p.1 by)) refl rest
      | inr other ↦ another (is_zero_fraction (exponent_product p.1 by)) other ∙ rest
          ∙ ap (λ e. kept (exponent_product e by)) (sym (exponent_at-past q p.0 p.1 ps other))
    ]
  where
    another : (z : Bool) → is_name q p.0 ≡ false
        → find by_bytes q (cond z (scaled_powers by ps) ((p.0, exponent_product p.1 by) ∷ scaled_powers by ps))
        ≡ find by_bytes q (scaled_powers by ps)
    another true other = refl
    another false other = find_past_power q p.0 (exponent_product p.1 by) (scaled_powers by ps) other

    value : q ≡ p.0 → exponent_product (at (p ∷ ps) q) by ≡ exponent_product p.1 by
    value same = ap (λ e. exponent_product e by) (exponent_at_own_power q p.0 p.1 ps same)

    gone : q ≡ p.0 → kept (exponent_product (at ps q) by) ≡ None
    gone same =
        ap (λ e. kept (exponent_product e by))
        (exponent_at-below q ps (subst (λ n. T (below_all by_bytes n ps)) (sym same) (and_first _ _ sorted)))
        ∙ ap kept (product_zero law by some)

    own : q ≡ p.0 → (z : Bool) → is_zero_fraction (exponent_product p.1 by) ≡ z
        → find by_bytes q (scaled_powers by ps) ≡ kept (exponent_product (at ps q) by)
        → find by_bytes q (scaled_powers by (p ∷ ps)) ≡ kept (exponent_product (at (p ∷ ps) q) by)
    own same true e rest =
        ap (λ z. find by_bytes q (cond z (scaled_powers by ps) ((p.0, exponent_product p.1 by) ∷ scaled_powers by ps)))
        e
        ∙ rest ∙ gone same ∙ sym (ap kept (value same) ∙ ap (λ z. cond z None (Some (exponent_product p.1 by))) e)
    own same false e rest =
        ap (λ z. find by_bytes q (cond z (scaled_powers by ps) ((p.0, exponent_product p.1 by) ∷ scaled_powers by ps)))
        e
        ∙ find_own_power q p.0 (exponent_product p.1 by) (scaled_powers by ps) same
        ∙ sym (ap kept (value same) ∙ nonzero_exponent_is_found (exponent_product p.1 by) e)
