-- Roots computed by a search among whole numbers.
use Rattle.std.proofs.Common.{inl, inr, ◌≡◌, ◌<◌, ◌≤◌, ◌^◌, ◌%◌, refl, sym, ap, subst, ◌∙◌, arith, Bool, true, false}
use Rattle.std.proofs.Common.{cond, ℕ, ℤ, pos, negsuc, suc, zero, unsigned_abs, int_lt, List, [], ◌∷◌, Option, None}
use Rattle.std.proofs.Common.{Some, Result, Ok, Err}
use Rattle.std.specs.Prelude.{◌==◌, ◌&&◌, IsFalse, if◌then◌else◌}
use Rattle.std.specs.Int.{int_pow}
use Rattle.std.specs.List.{find}
use Rattle.std.proofs.lemmas.Bool.{cases_eq, false≢true}
use Rattle.std.proofs.lemmas.Bool.Decides.{nat_tests}
use Rattle.frac128.specs.Fraction.{Fraction, IsReducedFraction}
use Rattle.frac128.specs.Roots.{FractionRootLaw, IsFractionRoot, IsFractionRootAnswer, fraction_of_roots, fraction_root}
use Rattle.frac128.specs.Roots.{whole_root, wholes_down_from}
use Rattle.frac128.specs.Sign.{is_negative_fraction}
use Rattle.frac128.specs.declared.fault.FracFault.{FracFault}
use Rattle.frac128.specs.declared.fault.FracFault.TheVariants.{NoExactRoot}
use Rattle.frac128.proofs.Powers.{IsMade}
use Rattle.frac128.proofs.Roots.{fraction_root_from_parts, numerator_abs-pow, root_le-pow, unique_fraction_root_law}
use Rattle.frac128.proofs.Signs.{natural_numerator_is_not_negative}
use Rattle.general_lemmas.proofs.Options.{not_chosen}

-- a number that `find` gives passes the test
root_search_hit_passes : (test : ℕ → Bool) (xs : List ℕ) (x : ℕ) → find test xs ≡ Some x → test x ≡ true
root_search_hit_passes test [] x is = absurd (cc)
root_search_hit_passes test (y ∷ ys) x is = go (test y) refl is (λ rest. root_search_hit_passes test ys x rest)
  where
    go : (b : Bool) → test y ≡ b → cond b (Some y) (find test ys) ≡ Some x → (find test ys ≡ Some x → test x ≡ true)
        → test x ≡ true
    go true passes is rest = let same : y ≡ x = cc in ap test (sym same) ∙ passes
    go false fails is rest = rest is

-- if the search from `n` down gives `None`, no number up to `n` passes
root_search_miss_fails : (test : ℕ → Bool) (n m : ℕ) → m ≤ n → find test (wholes_down_from n) ≡ None → test m ≡ false
root_search_miss_fails test zero m low none = let same : m ≡ 0 = omega arith in
    ap test same ∙ (not_chosen (test 0) 0 None none).0
root_search_miss_fails test (suc n) m low none = elim (cases_eq m (suc n)) [
  | inl same ↦ ap test same ∙ (not_chosen (test (suc n)) (suc n) (find test (wholes_down_from n)) none).0
  | inr other ↦ root_search_miss_fails test n m (omega (arith, other))
      (not_chosen (test (suc n)) (suc n) (find test (wholes_down_from n)) none).1
]

-- ---- the law

-- the number that is found is the root
found_whole_root : (n q r : ℕ) → whole_root n q ≡ Some r → r ^ q ≡ n
found_whole_root n q r is = same (r ^ q) n (root_search_hit_passes (λ r. r ^ q == n) (wholes_down_from n) r is)
  where
    same : (a b : ℕ) → (a == b) ≡ true → a ≡ b
    same a b h = grind (arith, nat_tests)

-- if the search gives `None`, there is no whole root
whole_root_none_has_no_root : (n q m : ℕ) → 0 < q → whole_root n q ≡ None → m ^ q ≡ n → ⊥
whole_root_none_has_no_root n q m some none power =
    clash (m ^ q) n power
    (root_search_miss_fails (λ r. r ^ q == n) n m (subst (λ k. m ≤ k) power (root_le-pow m q some)) none)
  where
    clash : (a b : ℕ) → a ≡ b → (a == b) ≡ false → ⊥
    clash a b e h = grind (arith, nat_tests)

-- a fraction below 0 has no root of even degree
negative_has_no_even_root : (x r : Fraction) (q : ℕ) → is_negative_fraction x ≡ true → q % 2 ≡ 0 → IsFractionRoot x q r
    → ⊥
negative_has_no_even_root x r q negative even root = by_num r.num (ap (λ f. f.num) root.root_power)
    (root.sign_if_even even)
  where
    by_num : (z : ℤ) → int_pow z q ≡ x.num → IsFalse (int_lt z (pos 0)) → ⊥
    by_num (pos m) power plain =
        false≢true (sym (natural_numerator_is_not_negative (m ^ q)) ∙ ap (λ z. int_lt z (pos 0)) power ∙ negative)
    by_num (negsuc m) power plain = false≢true (sym plain)

-- `fraction_root` gives the root, or the fault that there is none
pub fraction_root_law : FractionRootLaw
unfolding fraction_root
fraction_root_law x q is some = by_sign (is_negative_fraction x) (q % 2 == 0) refl refl
  where
    even : (m : ℕ) → (m == 0) ≡ true → m ≡ 0
    even m h = grind (arith, nat_tests)

    odd : (m : ℕ) → (m == 0) ≡ false → m ≡ 0 → ⊥
    odd m h k = grind (arith, nat_tests)

    made : (s : Bool) → is_negative_fraction x ≡ s → IsMade x s (unsigned_abs x.num) x.den
    made s s_is = record { s_is = sym s_is; a_is = refl; b_is = refl; some = is.den_positive; lowest = is.coprime }

    by_parts : (s : Bool) (top bottom : Option ℕ) → is_negative_fraction x ≡ s → (s ≡ true → q % 2 ≡ 0 → ⊥)
        → whole_root (unsigned_abs x.num) q ≡ top → whole_root x.den q ≡ bottom
        → IsFractionRootAnswer x q (fraction_of_roots s top bottom)
    by_parts s (Some a) (Some b) s_is other top bottom =
        fraction_root_from_parts x q s (unsigned_abs x.num) x.den a b (made s s_is) some
        (found_whole_root (unsigned_abs x.num) q a top)
        (found_whole_root x.den q b bottom) other
    by_parts s (Some a) None s_is other top bottom =
        (refl, λ r root. whole_root_none_has_no_root x.den q r.den some bottom (ap (λ f. f.den) root.root_power))
    by_parts s None bottom s_is other top none = (
      refl,
      λ r root. whole_root_none_has_no_root (unsigned_abs x.num) q (unsigned_abs r.num) some top
          (sym (numerator_abs-pow r.num q) ∙ ap (λ f. unsigned_abs f.num) root.root_power),
    )

    by_sign : (s e : Bool) → is_negative_fraction x ≡ s → (q % 2 == 0) ≡ e
        → IsFractionRootAnswer x q
        (if s && e then Err NoExactRoot else fraction_of_roots s (whole_root (unsigned_abs x.num) q)
        (whole_root x.den q))
    by_sign true true s_is e_is = (refl, λ r root. negative_has_no_even_root x r q s_is (even (q % 2) e_is) root)
    by_sign true false s_is e_is = by_parts true _ _ s_is (λ _. odd (q % 2) e_is) refl refl
    by_sign false e s_is e_is = by_parts false _ _ s_is (λ h _. false≢true h) refl refl

-- each answer is the one that `fraction_root` computes
pub root_answer_is_fraction_root : (x : Fraction) (q : ℕ) (answer : Result Fraction FracFault) → IsReducedFraction x
    → 0 < q
    → IsFractionRootAnswer x q answer
    → answer ≡ fraction_root x q
root_answer_is_fraction_root x q answer is some h = go answer (fraction_root x q) h (fraction_root_law x q is some)
  where
    go : (a b : Result Fraction FracFault) → IsFractionRootAnswer x q a → IsFractionRootAnswer x q b → a ≡ b
    go (Ok r) (Ok s) h g = ap Ok (unique_fraction_root_law x q r s some h g)
    go (Ok r) (Err f) h g = absurd (g.1 r h)
    go (Err f) (Ok s) h g = absurd (h.1 s g)
    go (Err f) (Err e) h g = ap Err (h.0 ∙ sym g.0)
