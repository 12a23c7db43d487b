-- The products of a list, power by power.
use Rattle.std.proofs.Common.{◌≡◌, sym, ap, subst, ◌∙◌, append_assoc, [], ◌∷◌, ◌++◌, ◌<◌, All, IsTrue, IsFalse}
use Rattle.std.proofs.lemmas.List.{append-nil}
use Rattle.std.proofs.lemmas.List.Elements.{All-head, All-tail}
use Rattle.frac128.specs.Fraction.{Fraction}
use Rattle.frac128.specs.Steps.{ReducedFractionLaw}
use Rattle.quantity.specs.Exponents.{IsUnitPower, exponent_product, is_exponent}
use Rattle.quantity.specs.Merges.{UnitPowers, are_exponents, put_nonzero_power, scaled_powers}
use Rattle.quantity.proofs.Fractions.{product_reduced}
use Rattle.quantity.proofs.Ranges.{exponent_fault_stays, put_exponents_in_range, put_power_then}
use Rattle.quantity.proofs.Names.{Name}

-- the products so far and the products of the rest are the products of the list
pub record IsScaling (by : Fraction) (all out rest : UnitPowers) : Type 0 where
  pub done : out ++ scaled_powers by rest ≡ scaled_powers by all
  pub fits : IsTrue (are_exponents out)
  pub kept : All IsUnitPower rest

-- before the first power, there are no products
pub scaling_powers_start : (by : Fraction) (all out : UnitPowers) → out ≡ [] → All IsUnitPower all
    → IsScaling by all out all
scaling_powers_start by all out none kept = record {
  done = ap (λ es. es ++ scaled_powers by all) none;
  fits = ap are_exponents none;
  kept = kept;
}

-- the products of a power and of the powers after it
scaling_powers_next : (by : Fraction) (all out rest more : UnitPowers) (p : Name × Fraction) → IsScaling by all out rest
    → rest ≡ p ∷ more
    → out ++ put_nonzero_power (p.0, exponent_product p.1 by) (scaled_powers by more) ≡ scaled_powers by all
scaling_powers_next by all out rest more p is parts = ap (λ es. out ++ scaled_powers by es) (sym parts) ∙ is.done

-- one more power is appended to the products, unless its exponent becomes 0
pub scaling_powers_more : (by : Fraction) (all out rest new more : UnitPowers) (p : Name × Fraction)
    → IsScaling by all out rest
    → rest ≡ p ∷ more
    → (new ≡ out ++ put_nonzero_power (p.0, exponent_product p.1 by) []) × IsTrue
    (is_exponent (exponent_product p.1 by))
    → IsScaling by all new more
scaling_powers_more by all out rest new more p is parts put = record {
  done = ap (λ es. es ++ scaled_powers by more) put.0
      ∙ append_assoc out (put_nonzero_power (p.0, exponent_product p.1 by) []) (scaled_powers by more)
      ∙ ap (λ es. out ++ es) (put_power_then (p.0, exponent_product p.1 by) (scaled_powers by more))
      ∙ scaling_powers_next by all out rest more p is parts;
  fits = ap are_exponents put.0 ∙ put_exponents_in_range out (p.0, exponent_product p.1 by) is.fits put.1;
  kept = All-tail IsUnitPower p more (subst (All IsUnitPower) parts is.kept);
}

-- a product out of range is a fault of the list
pub scaling_powers_fault : ReducedFractionLaw → (by : Fraction) (all out rest more : UnitPowers) (p : Name × Fraction)
    → 0 < by.den
    → IsScaling by all out rest → rest ≡ p ∷ more
    → IsFalse (is_exponent (exponent_product p.1 by)) → IsFalse (are_exponents (scaled_powers by all))
scaling_powers_fault law by all out rest more p some is parts fails =
    let kept = All-head IsUnitPower p more (subst (All IsUnitPower) parts is.kept) in
    ap are_exponents (sym (scaling_powers_next by all out rest more p is parts))
    ∙ exponent_fault_stays out (p.0, exponent_product p.1 by) (scaled_powers by more)
    (product_reduced law p.1 by kept.exponent.exponent_reduced.den_positive some) fails

-- if no power is left, all powers are scaled
pub scaling_powers_end : (by : Fraction) (all out rest items : UnitPowers) → IsScaling by all out rest → rest ≡ []
    → all ≡ items
    → (out ≡ scaled_powers by items) × IsTrue (are_exponents (scaled_powers by items))
scaling_powers_end by all out rest items is none same =
    let end : out ≡ scaled_powers by items =
    sym (append-nil out) ∙ ap (λ es. out ++ scaled_powers by es) (sym none) ∙ is.done ∙ ap (scaled_powers by) same in
    (end, sym (ap are_exponents end) ∙ is.fits)
