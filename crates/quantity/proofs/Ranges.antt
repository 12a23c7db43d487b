-- Powers with exponents in range, and powers appended to others.
use Rattle.std.proofs.Common.{◌≡◌, refl, sym, ap, ap₂, ◌∙◌, Bool, true, false, cond, ◌&&◌}
use Rattle.std.proofs.Common.{[], ◌∷◌, ◌++◌, IsFalse, unsigned_abs, Err}
use Rattle.std.specs.Cmp.{first_so, second_so}
use Rattle.std.proofs.lemmas.List.{append-nil}
use Rattle.std.proofs.lemmas.Bool.{le-leb}
use Rattle.frac128.specs.Fraction.{Fraction, IsReducedFraction}
use Rattle.frac128.specs.Sign.{is_zero_fraction}
use Rattle.quantity.specs.Exponents.{IsExponent, is_exponent}
use Rattle.quantity.specs.Merges.{IsPowerPut, IsPowersFault, UnitPowers, are_exponents, put_nonzero_power}
use Rattle.quantity.specs.declared.fault.ExponentFault.{ExponentFault}
use Rattle.quantity.specs.declared.fault.ExponentFault.TheVariants.{Range, OutOfMemory}
use Rattle.quantity.proofs.Fractions.{zero_exponent_is_absent}
use Rattle.quantity.proofs.Names.{Name}

-- ---- exponents in range

-- the range test is true for an exponent
pub exponent_passes : (e : Fraction) → IsExponent e → is_exponent e ≡ true
exponent_passes e is = ap₂ (λ a b. a && b) (le-leb (unsigned_abs e.num) 32767 is.num_fits) (le-leb e.den 60 is.den_fits)

-- if all exponents are in range, so are they with one more that is in range
pub pushed_exponents_in_range : (out : UnitPowers) (p : Name × Fraction) → are_exponents out ≡ true
    → is_exponent p.1 ≡ true
    → are_exponents (out ++ p ∷ []) ≡ true
pushed_exponents_in_range [] p all fits = ap (λ b. b && true) fits
pushed_exponents_in_range (e ∷ out) p all fits =
    ap₂ (λ a b. a && b) (first_so _ _ all) (pushed_exponents_in_range out p (second_so (is_exponent e.1) _ all) fits)

-- appending a power unless its exponent is 0 preserves that all exponents are in range
pub put_exponents_in_range : (out : UnitPowers) (p : Name × Fraction) → are_exponents out ≡ true
    → is_exponent p.1 ≡ true
    → are_exponents (out ++ put_nonzero_power p []) ≡ true
put_exponents_in_range out p all fits = go (is_zero_fraction p.1)
  where
    go : (z : Bool) → are_exponents (out ++ cond z [] (p ∷ [])) ≡ true
    go true = ap are_exponents (append-nil out) ∙ all
    go false = pushed_exponents_in_range out p all fits

-- a list with a power out of range has a fault
pub exponent_fault_after : (out : UnitPowers) (p : Name × Fraction) (rest : UnitPowers) → is_exponent p.1 ≡ false
    → are_exponents (out ++ p ∷ rest) ≡ false
exponent_fault_after [] p rest fails = ap (λ b. b && are_exponents rest) fails
exponent_fault_after (e ∷ out) p rest fails = go (is_exponent e.1) (exponent_fault_after out p rest fails)
  where
    go : (b : Bool) → are_exponents (out ++ p ∷ rest) ≡ false → (b && are_exponents (out ++ p ∷ rest)) ≡ false
    go true h = h
    go false h = refl

-- a list with a power out of range has a fault, since such an exponent is not 0
pub exponent_fault_stays : (out : UnitPowers) (p : Name × Fraction) (rest : UnitPowers) → IsReducedFraction p.1
    → is_exponent p.1 ≡ false
    → are_exponents (out ++ put_nonzero_power p rest) ≡ false
exponent_fault_stays out p rest reduced fails = go (is_zero_fraction p.1) refl
  where
    none : is_zero_fraction p.1 ≡ true → true ≡ false
    none zero = sym (ap is_exponent (zero_exponent_is_absent p.1 reduced zero)) ∙ fails

    go : (z : Bool) → is_zero_fraction p.1 ≡ z → are_exponents (out ++ cond z rest (p ∷ rest)) ≡ false
    go true zero = let e = none zero in absurd (cc)
    go false some = exponent_fault_after out p rest fails

-- a power put in front of an empty list and then of others is put in front of the others
pub put_power_then : (p : Name × Fraction) (rest : UnitPowers) → put_nonzero_power p [] ++ rest ≡ put_nonzero_power p
    rest
put_power_then p rest = go (is_zero_fraction p.1)
  where
    go : (z : Bool) → cond z [] (p ∷ []) ++ rest ≡ cond z rest (p ∷ rest)
    go true = refl
    go false = refl

-- ---- passing on an error

-- a fault of appending a power is a fault of the list
pub put_power_fault_passes_on : (out new expected : UnitPowers) (power : Name × Fraction) (fault : ExponentFault)
    → IsPowerPut (Err fault) out new power
    → (IsFalse (is_exponent power.1) → IsFalse (are_exponents expected)) → IsPowersFault fault expected
put_power_fault_passes_on out new expected power Range h show = show h
put_power_fault_passes_on out new expected power OutOfMemory h show = tt
