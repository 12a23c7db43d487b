-- Exact roots.
use Rattle.std.specs.Prelude.{◌≡◌, ◌==◌, ◌&&◌, ◌%◌, ◌^◌, ◌<◌, ℕ, suc, zero, pos, unsigned_abs, int_lt, Bool, IsFalse}
use Rattle.std.specs.Prelude.{List, [], ◌∷◌, Option, Some, Result, Ok, Err, if◌then◌else◌}
use Rattle.std.specs.List.{find}
use Rattle.frac128.specs.declared.fault.FracFault.{FracFault}
use Rattle.frac128.specs.declared.fault.FracFault.TheVariants.{NoExactRoot}
use Rattle.frac128.specs.Fraction.{Fraction, IsReducedFraction}
use Rattle.frac128.specs.Powers.{power_fraction}
use Rattle.frac128.specs.Sign.{is_negative_fraction, signed_numerator}

-- r to the power q is x, and r is not below 0 if q is even
pub record IsFractionRoot (x : Fraction) (q : ℕ) (r : Fraction) : Type 0 where
  pub root_reduced : IsReducedFraction r
  pub root_power : power_fraction r q ≡ x
  pub sign_if_even : q % 2 ≡ 0 → IsFalse (int_lt r.num (pos 0))

-- the root, or the fault that no fraction is a root
abbrev pub IsFractionRootAnswer : Fraction → ℕ → Result Fraction FracFault → Type 0
IsFractionRootAnswer x q (Ok r) = IsFractionRoot x q r
IsFractionRootAnswer x q (Err fault) = (fault ≡ NoExactRoot) × ((r : Fraction) → ¬ IsFractionRoot x q r)

-- law: no fraction has two roots of one degree
abbrev pub UniqueFractionRootLaw : Type 0
UniqueFractionRootLaw = (x : Fraction) (q : ℕ) (r s : Fraction) → 0 < q → IsFractionRoot x q r → IsFractionRoot x q s
    → r ≡ s

-- the whole numbers from n down to 0
abbrev pub wholes_down_from : ℕ → List ℕ
wholes_down_from zero = 0 ∷ []
wholes_down_from (suc n) = suc n ∷ wholes_down_from n

-- the whole number whose power to q is n, if there is one; it is no greater than n
abbrev pub whole_root : ℕ → ℕ → Option ℕ
whole_root n q = find (λ r. r ^ q == n) (wholes_down_from n)

-- the fraction with this sign and two roots as numerator and denominator, if there are two
abbrev pub fraction_of_roots : Bool → Option ℕ → Option ℕ → Result Fraction FracFault
fraction_of_roots negative (Some top) (Some bottom) = Ok (record { num = signed_numerator negative top; den = bottom })
fraction_of_roots negative _ _ = Err NoExactRoot

-- the root of a fraction: the root of the numerator over the root of the denominator, with the fraction's sign; a
-- fraction below 0 has no root of even degree
unfoldable pub fraction_root : Fraction → ℕ → Result Fraction FracFault
fraction_root x q =
    if is_negative_fraction x && q % 2 == 0
    then Err NoExactRoot
    else fraction_of_roots (is_negative_fraction x) (whole_root (unsigned_abs x.num) q) (whole_root x.den q)

-- law: `fraction_root` gives the fraction whose power to q is x, or no fraction is a root
abbrev pub FractionRootLaw : Type 0
FractionRootLaw = (x : Fraction) (q : ℕ) → IsReducedFraction x → 0 < q → IsFractionRootAnswer x q (fraction_root x q)
