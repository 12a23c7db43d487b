-- The text computed by rounding is that of the nearest decimal.
use Rattle.std.proofs.Common.{◌≡◌, ◌≤◌, ℕ, ℤ, pos, negsuc, suc, zero, false, List, unsigned_abs, arith, refl, ap, ◌∙◌}
use Rattle.std.proofs.Common.{inl, inr}
use Rattle.std.specs.Prelude.{◌==◌}
use Rattle.std.proofs.lemmas.Bool.Decides.{nat_tests}
use Rattle.frac128.specs.Fraction.{Fraction, IsFrac}
use Rattle.digits_print.specs.Digits.{IsDigitsText, IsNearestText, digits_text}
use Rattle.digits_print.specs.RatioRounding.{NearestDecimalLaw, digits_rounding}

-- the computed text is that of the nearest decimal
pub nearest_decimal_text : NearestDecimalLaw → (x : Fraction) (n : ℕ) (text : List ℕ) → IsFrac x → 1 ≤ n
    → text ≡ digits_text x n
    → IsDigitsText x n text
nearest_decimal_text law x n text kept some is = by_num x.num refl is
  where
    nearest : (m : ℕ) → unsigned_abs x.num ≡ suc m → text ≡ digits_text x n → IsNearestText x n text
    nearest m e is = record {
      decimal = digits_rounding n (unsigned_abs x.num) x.den;
      nearest = (law n (unsigned_abs x.num) x.den (omega arith) (omega arith) kept.lowest_terms.den_positive).0;
      decimal_spelled = is ∙ rw (ap (λ k. k == 0) e ∙ other m) refl;
    }
      where
        other : (m : ℕ) → (suc m == 0) ≡ false
        other m = grind (arith, nat_tests)

    by_num : (z : ℤ) → x.num ≡ z → text ≡ digits_text x n → IsDigitsText x n text
    by_num (pos zero) e is = inl (e, is ∙ rw e refl)
    by_num (pos (suc m)) e is = inr (nearest m (ap unsigned_abs e) is)
    by_num (negsuc m) e is = inr (nearest m (ap unsigned_abs e) is)
