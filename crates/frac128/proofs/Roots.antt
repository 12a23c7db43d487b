-- Roots of fractions, computed from the roots of their parts.
use Rattle.std.proofs.Common.{inl, inr, ◌≡◌, ◌%◌, ◌^◌, ◌<◌, ◌≤◌, ℕ, ℤ, pos, negsuc, suc, zero, Bool, true, false}
use Rattle.std.proofs.Common.{unsigned_abs, arith, refl, sym, ap, subst, ◌∙◌}
use Rattle.std.specs.Prelude.{int_lt, IsFalse, Ok, ◌&&◌, ◌==◌}
use Rattle.std.specs.Int.{◌∣◌, IsGcd, int_pow}
use Rattle.std.proofs.lemmas.Bool.{cases_order, le-leb}
use Rattle.std.proofs.lemmas.Int.{ints}
use Rattle.std.proofs.Math.Nat.{pow-lt-pow_left, dvd-mul_left, pow-le-pow_right, pow-suc}
use Rattle.std.proofs.Math.Bool.{and-true}
use Rattle.frac128.specs.Fraction.{Fraction, largest_fraction_part}
use Rattle.frac128.specs.Powers.{power_fraction}
use Rattle.frac128.specs.Roots.{IsFractionRoot, IsFractionRootAnswer, UniqueFractionRootLaw}
use Rattle.frac128.specs.Sign.{signed_numerator}
use Rattle.frac128.specs.Steps.{fraction_or_overflow}
use Rattle.frac128.proofs.Coprime.{gcd_one_is_coprime, coprime-dvd, coprime_has_gcd_one}
use Rattle.frac128.proofs.Powers.{IsMade, denominator_pow_some, pow-signed_numerator}
use Rattle.frac128.proofs.RootSearch.{root_pow-one, root_zero-pow}
use Rattle.frac128.proofs.Signs.{abs-signed_numerator, numerator_is_signed}

-- the root of a number above 0 is above 0
pub whole_root_some : (m q b : ℕ) → 0 < q → m ^ q ≡ b → 0 < b → 0 < m
whole_root_some zero q b some e h = let none : b ≡ 0 = sym e ∙ root_zero-pow q some in absurd (omega arith)
whole_root_some (suc m) q b some e h = omega arith

-- a number is at most its power
pub root_le-pow : (m q : ℕ) → 0 < q → m ≤ m ^ q
root_le-pow zero q some = omega arith
root_le-pow (suc m) q some =
    subst (λ k. k ≤ suc m ^ q) (root_pow-one (suc m)) (pow-le-pow_right {n = suc m} (omega arith) {i = 1} {j = q} some)

-- a number divides its power
pub root_dvd-pow : (m q : ℕ) → 0 < q → m ∣ m ^ q
root_dvd-pow m zero some = absurd (omega arith)
root_dvd-pow m (suc q) some = subst (λ k. m ∣ k) (sym (pow-suc m q)) (dvd-mul_left m (m ^ q))

-- roots of coprime numbers are coprime
pub roots_are_coprime : (m n q a b : ℕ) → 0 < q → m ^ q ≡ a → n ^ q ≡ b → IsGcd a b 1 → IsGcd m n 1
roots_are_coprime m n q a b some first second h =
    coprime_has_gcd_one m n
    (coprime-dvd a b m n (gcd_one_is_coprime a b h) (subst (λ k. m ∣ k) first (root_dvd-pow m q some))
    (subst (λ k. n ∣ k) second (root_dvd-pow n q some)))

-- a fraction whose parts are in range fits
fraction_in_range_fits : (s : Bool) (top bottom : ℕ) → top ≤ largest_fraction_part → bottom ≤ largest_fraction_part
    → fraction_or_overflow (record { num = signed_numerator s top; den = bottom }) ≡ Ok
    (record { num = signed_numerator s top; den = bottom })
fraction_in_range_fits s top bottom low high =
    rw (abs-signed_numerator s top, le-leb top largest_fraction_part low, le-leb bottom largest_fraction_part high) refl

-- if a number below 0 has only roots of odd degree, the sign of the power is that of the root
odd_root_sign : (s : Bool) (q : ℕ) → (s ≡ true → q % 2 ≡ 0 → ⊥) → (s && (q % 2 == 1)) ≡ s
odd_root_sign false q odd = refl
odd_root_sign true q odd = is_one (q % 2) (omega arith) (odd refl)
  where
    is_one : (r : ℕ) → r < 2 → (r ≡ 0 → ⊥) → (r == 1) ≡ true
    is_one zero h other = absurd (other refl)
    is_one (suc zero) h other = refl
    is_one (suc (suc r)) h other = absurd (omega arith)

-- a root of even degree is not below 0
even_root_is_not_negative : (s : Bool) (top q : ℕ) → (s ≡ true → q % 2 ≡ 0 → ⊥) → q % 2 ≡ 0
    → IsFalse (int_lt (signed_numerator s top) (pos 0))
even_root_is_not_negative false top q odd even = grind (arith, ints)
even_root_is_not_negative true top q odd even = absurd (odd refl even)

-- the root of a fraction, made from the roots of numerator and denominator
pub fraction_root_from_parts : (x : Fraction) (q : ℕ) (s : Bool) (a b top bottom : ℕ) → IsMade x s a b → 0 < q
    → top ^ q ≡ a
    → bottom ^ q ≡ b
    → (s ≡ true → q % 2 ≡ 0 → ⊥) → IsFractionRoot x q (record { num = signed_numerator s top; den = bottom })
fraction_root_from_parts x q s a b top bottom is some first second odd =
    let num : int_pow (signed_numerator s top) q ≡ x.num =
    pow-signed_numerator s top q ∙ ap (λ t. signed_numerator t (top ^ q)) (odd_root_sign s q odd)
    ∙ ap (signed_numerator s) (first ∙ is.a_is)
    ∙ ap (λ t. signed_numerator t (unsigned_abs x.num)) is.s_is ∙ sym (numerator_is_signed x.num) in
    record {
      root_reduced = record {
        den_positive = whole_root_some bottom q b some second is.some;
        coprime = rw (abs-signed_numerator s top)
            (roots_are_coprime top bottom q a b some first second (rw is.b_is is.lowest));
      };
      root_power = ap (λ n. record { num = n; den = bottom ^ q }) num
          ∙ ap (λ d. record { num = x.num; den = d }) (second ∙ is.b_is);
      sign_if_even = even_root_is_not_negative s top q odd;
    }

-- the root of a fraction that fits, fits
pub fraction_root_fits : (x : Fraction) (q : ℕ) (s : Bool) (a b top bottom : ℕ) → IsMade x s a b → 0 < q → top ^ q ≡ a
    → bottom ^ q ≡ b → a ≤ largest_fraction_part
    → b ≤ largest_fraction_part
    → (s ≡ true → q % 2 ≡ 0 → ⊥)
    → IsFractionRootAnswer x q (fraction_or_overflow (record { num = signed_numerator s top; den = bottom }))
fraction_root_fits x q s a b top bottom is some first second a_fits b_fits odd =
    let low : top ≤ largest_fraction_part = under top a (subst (λ k. top ≤ k) first (root_le-pow top q some)) a_fits in
    let high : bottom ≤ largest_fraction_part =
    under bottom b (subst (λ k. bottom ≤ k) second (root_le-pow bottom q some)) b_fits in
    subst (IsFractionRootAnswer x q) (sym (fraction_in_range_fits s top bottom low high))
    (fraction_root_from_parts x q s a b top bottom is some first second odd)
  where
    under : (m n : ℕ) → m ≤ n → n ≤ largest_fraction_part → m ≤ largest_fraction_part
    under m n h k = omega arith

-- numbers with the same power are equal
roots_of_power_are_equal : (m n q : ℕ) → 0 < q → m ^ q ≡ n ^ q → m ≡ n
roots_of_power_are_equal m n q some e = elim (cases_order m n) [
  | inl h ↦ h
  | inr (inl h) ↦ (let less : m ^ q < n ^ q = pow-lt-pow_left h (other q some) in absurd (omega arith))
  | inr (inr h) ↦ (let less : n ^ q < m ^ q = pow-lt-pow_left h (other q some) in absurd (omega arith))
]
  where
    other : (q : ℕ) → 0 < q → q ≡ 0 → ⊥
    other q some e = omega arith

-- the magnitude of a power is the power of the magnitude
pub numerator_abs-pow : (z : ℤ) (q : ℕ) → unsigned_abs (int_pow z q) ≡ unsigned_abs z ^ q
numerator_abs-pow z q =
    ap (λ n. unsigned_abs (int_pow n q)) (numerator_is_signed z)
    ∙ ap unsigned_abs (pow-signed_numerator (int_lt z (pos 0)) (unsigned_abs z) q)
    ∙ abs-signed_numerator _ (unsigned_abs z ^ q)

-- a number other than 0 has its sign
signed_numerator_has_sign : (s : Bool) (m : ℕ) → 0 < m → int_lt (signed_numerator s m) (pos 0) ≡ s
signed_numerator_has_sign false m some = grind (arith, ints)
signed_numerator_has_sign true zero some = absurd (omega arith)
signed_numerator_has_sign true (suc m) some = refl

-- a power of odd degree has the sign of the number
odd_numerator_pow_sign : (z : ℤ) (q : ℕ) → 0 < unsigned_abs z → q % 2 ≡ 1 → int_lt (int_pow z q) (pos 0) ≡ int_lt z
    (pos 0)
odd_numerator_pow_sign z q some odd =
    let s = int_lt z (pos 0) in
    let m = unsigned_abs z in
    ap (λ n. int_lt n (pos 0))
    (ap (λ n. int_pow n q) (numerator_is_signed z) ∙ pow-signed_numerator s m q
    ∙ ap (λ b. signed_numerator (s && b) (m ^ q))
    (one_is (q % 2) odd)
    ∙ ap (λ b. signed_numerator b (m ^ q)) (and-true s))
    ∙ signed_numerator_has_sign s (m ^ q) (denominator_pow_some m q some)
  where
    one_is : (r : ℕ) → r ≡ 1 → (r == 1) ≡ true
    one_is r e = rw e refl

-- two roots have the same numerator
roots_have_same_numerator : (m n : ℤ) (q : ℕ) → 0 < q → int_pow m q ≡ int_pow n q
    → (q % 2 ≡ 0 → IsFalse (int_lt m (pos 0)))
    → (q % 2 ≡ 0 → IsFalse (int_lt n (pos 0))) → m ≡ n
roots_have_same_numerator m n q some e plain_m plain_n =
    let size : unsigned_abs m ≡ unsigned_abs n =
    roots_of_power_are_equal (unsigned_abs m) (unsigned_abs n) q some
    (sym (numerator_abs-pow m q) ∙ ap unsigned_abs e ∙ numerator_abs-pow n q) in
    by_size (unsigned_abs m) refl size
  where
    none : (z : ℤ) → unsigned_abs z ≡ 0 → z ≡ pos 0
    none (pos zero) h = refl
    none (pos (suc z)) h = absurd (omega arith)
    none (negsuc z) h = absurd (omega arith)

    sign : (r : ℕ) → q % 2 ≡ r → r < 2 → 0 < unsigned_abs m → 0 < unsigned_abs n → int_lt m (pos 0) ≡ int_lt n (pos 0)
    sign zero r_is h some_m some_n = plain_m r_is ∙ sym (plain_n r_is)
    sign (suc zero) r_is h some_m some_n = sym (odd_numerator_pow_sign m q some_m r_is) ∙ ap (λ z. int_lt z (pos 0)) e
        ∙ odd_numerator_pow_sign n q some_n r_is
    sign (suc (suc r)) r_is h some_m some_n = absurd (omega arith)

    by_size : (a : ℕ) → unsigned_abs m ≡ a → unsigned_abs m ≡ unsigned_abs n → m ≡ n
    by_size zero a_is size = none m a_is ∙ sym (none n (sym size ∙ a_is))
    by_size (suc a) a_is size =
        let some_m : 0 < unsigned_abs m = omega arith in
        let some_n : 0 < unsigned_abs n = omega arith in
        let below : q % 2 < 2 = omega arith in
        numerator_is_signed m ∙ ap (λ s. signed_numerator s (unsigned_abs m)) (sign (q % 2) refl below some_m some_n)
        ∙ ap (signed_numerator (int_lt n (pos 0))) size ∙ sym (numerator_is_signed n)

-- two roots of a fraction are equal
pub unique_fraction_root_law : UniqueFractionRootLaw
unique_fraction_root_law x q r s some is_r is_s =
    let same : power_fraction r q ≡ power_fraction s q = is_r.root_power ∙ sym is_s.root_power in
    let num = roots_have_same_numerator r.num s.num q some (ap (λ f. f.num) same) is_r.sign_if_even is_s.sign_if_even in
    let den = roots_of_power_are_equal r.den s.den q some (ap (λ f. f.den) same) in
    ap (λ n. record { num = n; den = r.den }) num ∙ ap (λ d. record { num = s.num; den = d }) den
