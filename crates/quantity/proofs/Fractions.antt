-- Exponents in lowest terms.
use Rattle.std.proofs.Common.{◌≡◌, refl, sym, ap, subst, ◌∙◌, arith, ◌<◌, ◌*◌, Bool, true, false, cond, ℕ, ℤ, pos}
use Rattle.std.proofs.Common.{negsuc, suc, zero, ◌+ℤ◌, ◌*ℤ◌, unsigned_abs, Option, Some, None, IsFalse, ◌==◌}
use Rattle.std.specs.Int.{IsGcd}
use Rattle.std.specs.Prelude.{unwrap_or}
use Rattle.std.proofs.lemmas.Bool.Decides.{nat_tests}
use Rattle.std.proofs.Math.Nat.{dvd_antisymm, dvd_refl, dvd-zero, one-dvd}
use lib.IntN.{one, *ℤ-one, zero-*ℤ, +ℤ_idl, +ℤ_idr}
use Rattle.frac128.specs.Fraction.{AreEquivalentFractions, Fraction, IsReducedFraction, opposite_fraction}
use Rattle.frac128.specs.Fraction.{whole_fraction}
use Rattle.frac128.specs.Steps.{ReducedFractionLaw, lowest_terms}
use Rattle.frac128.specs.Sign.{is_zero_fraction}
use Rattle.quantity.specs.Exponents.{exponent_product, exponent_sum}
use Rattle.general_lemmas.proofs.Integers.{abs-neg}

-- the exponent of a name that is absent
abbrev pub nothing : Fraction
nothing = whole_fraction (pos 0)

-- the exponent, or `None` if it is 0
abbrev pub kept : Fraction → Option Fraction
kept e = cond (is_zero_fraction e) None (Some e)

-- the exponent of an absent name is in lowest terms
pub absent_exponent_is_reduced : IsReducedFraction nothing
absent_exponent_is_reduced = record { den_positive = omega arith; coprime = (dvd-zero 1, dvd_refl 1, λ d p q. q) }

-- each whole number is in lowest terms
pub whole_exponent_is_reduced : (n : ℤ) → IsReducedFraction (whole_fraction n)
whole_exponent_is_reduced n =
    record { den_positive = omega arith; coprime = (one-dvd (unsigned_abs n), dvd_refl 1, λ d p q. q) }

-- negating a fraction preserves lowest terms
pub negated_exponent_is_reduced : (e : Fraction) → IsReducedFraction e → IsReducedFraction (opposite_fraction e)
negated_exponent_is_reduced e is =
    record { den_positive = is.den_positive; coprime = subst (λ n. IsGcd n e.den 1) (sym (abs-neg e.num)) is.coprime }

-- negating an exponent preserves whether it is 0
pub negated_exponent_is_zero : (e : Fraction) → is_zero_fraction (opposite_fraction e) ≡ is_zero_fraction e
negated_exponent_is_zero e = ap (λ n. n == 0) (abs-neg e.num)

-- a reduced fraction that is 0 is the exponent of an absent name
pub zero_exponent_is_absent : (e : Fraction) → IsReducedFraction e → is_zero_fraction e ≡ true → e ≡ nothing
zero_exponent_is_absent e is none = go e.num e.den is.coprime none
  where
    den_one : (d : ℕ) → IsGcd 0 d 1 → d ≡ 1
    den_one d h = dvd_antisymm (h.2 d (dvd-zero d) (dvd_refl d)) (one-dvd d)

    not_zero : (n : ℕ) → (suc n == 0) ≡ true → ⊥
    not_zero n e = grind (arith, nat_tests)

    go : (n : ℤ) (d : ℕ) → IsGcd (unsigned_abs n) d 1 → (unsigned_abs n == 0) ≡ true
        → record { num = n; den = d } ≡ nothing
    go (pos zero) d h e = ap (λ d. record { num = pos 0; den = d }) (den_one d h)
    go (pos (suc n)) d h e = absurd (not_zero n e)
    go (negsuc n) d h e = absurd (not_zero n e)

-- the exponent that a lookup finds, or 0 if it finds none, is the exponent
pub found_exponent_or_zero : (e : Fraction) → IsReducedFraction e → unwrap_or (kept e) nothing ≡ e
found_exponent_or_zero e is = go (is_zero_fraction e) refl
  where
    go : (z : Bool) → is_zero_fraction e ≡ z → unwrap_or (cond z None (Some e)) nothing ≡ e
    go true none = sym (zero_exponent_is_absent e is none)
    go false some = refl

-- a nonzero exponent is found
pub nonzero_exponent_is_found : (e : Fraction) → IsFalse (is_zero_fraction e) → kept e ≡ Some e
nonzero_exponent_is_found e some = ap (λ z. cond z None (Some e)) some

module _ (law : ReducedFractionLaw) where
  pub sum_reduced : (a b : Fraction) → 0 < a.den → 0 < b.den → IsReducedFraction (exponent_sum a b)
  sum_reduced a b p q = (law _ (a.den * b.den) (grind (arith))).0

  pub product_reduced : (a b : Fraction) → 0 < a.den → 0 < b.den → IsReducedFraction (exponent_product a b)
  product_reduced a b p q = (law _ (a.den * b.den) (grind (arith))).0

  -- the sum with the exponent of an absent name is the other exponent
  pub sum_left : (a : Fraction) → IsReducedFraction a → exponent_sum a nothing ≡ a
  unfolding one
  sum_left a is =
      let num : (a.num *ℤ pos 1) +ℤ (pos 0 *ℤ pos a.den) ≡ a.num =
      ap (λ z. (a.num *ℤ pos 1) +ℤ z) (zero-*ℤ (pos a.den)) ∙ +ℤ_idr _ ∙ *ℤ-one a.num in
      let den : a.den * 1 ≡ a.den = omega arith in
      ap (λ z. lowest_terms z (a.den * 1)) num ∙ ap (lowest_terms a.num) den
      ∙ sym ((law a.num a.den is.den_positive).2 a is refl)

  pub sum_right : (b : Fraction) → IsReducedFraction b → exponent_sum nothing b ≡ b
  unfolding one
  sum_right b is =
      let num : (pos 0 *ℤ pos b.den) +ℤ (b.num *ℤ pos 1) ≡ b.num =
      ap (λ z. z +ℤ (b.num *ℤ pos 1)) (zero-*ℤ (pos b.den)) ∙ +ℤ_idl _ ∙ *ℤ-one b.num in
      let den : 1 * b.den ≡ b.den = omega arith in
      ap (λ z. lowest_terms z (1 * b.den)) num ∙ ap (lowest_terms b.num) den
      ∙ sym ((law b.num b.den is.den_positive).2 b is refl)

  -- a whole number over 1 reduces to that whole number
  pub whole_is : (n : ℤ) → lowest_terms n 1 ≡ whole_fraction n
  whole_is n = sym ((law n 1 (omega arith)).2 (whole_fraction n) (whole_exponent_is_reduced n) refl)

  -- the product of 0 and a fraction is 0
  pub product_zero : (by : Fraction) → 0 < by.den → exponent_product nothing by ≡ nothing
  product_zero by some =
      let num : pos 0 *ℤ by.num ≡ pos 0 = zero-*ℤ by.num in
      let den : 1 * by.den ≡ by.den = omega arith in
      let same : AreEquivalentFractions nothing (record { num = pos 0; den = by.den }) = zero-*ℤ (pos by.den) in
      ap (λ z. lowest_terms z (1 * by.den)) num ∙ ap (lowest_terms (pos 0)) den
      ∙ sym ((law (pos 0) by.den some).2 nothing absent_exponent_is_reduced same)
