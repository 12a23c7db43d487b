-- Ratios in lowest terms.
use Rattle.std.proofs.Common.{◌≡◌, ◌*◌, ◌/◌, ◌<◌, ℕ, suc, zero, arith, refl, sym, ap, subst, ◌∙◌}
use Rattle.std.specs.Int.{IsGcd}
use Rattle.std.proofs.Math.Nat.{mul_comm, mul_assoc, dvd-mul_left, mul-div_cancel', mul-div_cancel_left, mul-one}
use Rattle.std.proofs.Math.Nat.{mul-pos, mul-zero}
use Prim.Native.Nat.{◌∣◌}
use Rattle.frac128.specs.Divisors.{IsLowestTerms, gcd}
use Rattle.frac128.proofs.Euclid.{gcd_is, gcd-mul, gcd_some}
use Rattle.frac128.proofs.Coprime.{IsCoprime, gcd_one_is_coprime, coprime_has_gcd_one, coprime-mul, coprime-swap}
use Rattle.frac128.proofs.Coprime.{coprime-dvd, coprime-quotients}

-- coprime numbers multiplied by the same number have these coprime numbers as their lowest terms
lowest_terms-mul : (a b m top bottom : ℕ) → m * top ≡ a → m * bottom ≡ b → 0 < m → IsCoprime top bottom
    → IsLowestTerms a b top bottom
lowest_terms-mul a b m top bottom p q some h =
    let whole : gcd a b ≡ m = rw (← p, ← q) (gcd-mul m top bottom ∙ ap (λ g. m * g) h.one ∙ mul-one m) in
    record {
      top_is = ap (λ g. a / g) whole ∙ rw (← p) (mul-div_cancel_left top some);
      bottom_is = ap (λ g. b / g) whole ∙ rw (← q) (mul-div_cancel_left bottom some);
    }

-- a product that is reduced crosswise first is in lowest terms
pub lowest_terms-crosswise : (a b c d : ℕ) → 0 < b → 0 < d → IsCoprime a b → IsCoprime c d
    → IsLowestTerms (a * c) (b * d) (a / gcd a d * (c / gcd c b)) (b / gcd c b * (d / gcd a d))
lowest_terms-crosswise a b c d some_b some_d ab cd =
    let g = gcd a d in
    let h = gcd c b in
    let some_g : 0 < g = gcd_some a d some_d in
    let some_h : 0 < h = gcd_some c b some_b in
    let a_is : g * (a / g) ≡ a = mul-div_cancel' g (gcd_is a d).0 in
    let d_is : g * (d / g) ≡ d = mul-div_cancel' g (gcd_is a d).1 in
    let c_is : h * (c / h) ≡ c = mul-div_cancel' h (gcd_is c b).0 in
    let b_is : h * (b / h) ≡ b = mul-div_cancel' h (gcd_is c b).1 in
    let divides : (m q n : ℕ) → m * q ≡ n → q ∣ n = λ m q n e. subst (λ n. q ∣ n) e (dvd-mul_left q m) in
    let ax = divides g (a / g) a a_is in
    let dx = divides g (d / g) d d_is in
    let cx = divides h (c / h) c c_is in
    let bx = divides h (b / h) b b_is in
    let x_z : IsCoprime (a / g) (b / h) = coprime-dvd a b _ _ ab ax bx in
    let x_w : IsCoprime (a / g) (d / g) = coprime-quotients a d some_g in
    let y_z : IsCoprime (c / h) (b / h) = coprime-quotients c b some_h in
    let y_w : IsCoprime (c / h) (d / g) = coprime-dvd c d _ _ cd cx dx in
    let coprime : IsCoprime (a / g * (c / h)) (b / h * (d / g)) =
    coprime-swap _ _
    (coprime-mul _ _ _ (coprime-swap _ _ (coprime-mul _ _ _ x_z x_w))
    (coprime-swap _ _ (coprime-mul _ _ _ y_z y_w))) in
    let top : g * h * (a / g * (c / h)) ≡ a * c = four g h (a / g) (c / h) ∙ rw (a_is, c_is) refl in
    let bottom : g * h * (b / h * (d / g)) ≡ b * d = ap (λ n. n * (b / h * (d / g))) (mul_comm g h)
    ∙ four h g (b / h) (d / g) ∙ rw (b_is, d_is) refl in
    lowest_terms-mul _ _ (g * h) _ _ top bottom (product_some g h some_g some_h) coprime
  where
    four : (m n x y : ℕ) → m * n * (x * y) ≡ m * x * (n * y)
    four m n x y = mul_assoc m n (x * y)
        ∙ ap (λ k. m * k) (sym (mul_assoc n x y) ∙ ap (λ k. k * y) (mul_comm n x) ∙ mul_assoc x n y)
        ∙ sym (mul_assoc m x (n * y))

    product_some : (m n : ℕ) → 0 < m → 0 < n → 0 < m * n
    product_some m n p q = mul-pos p q

-- a product that is reduced crosswise by the two divisors is in lowest terms
pub lowest_terms_by_gcds : (a b c d g h : ℕ) → g ≡ gcd a d → h ≡ gcd c b → 0 < b → 0 < d → IsGcd a b 1 → IsGcd c d 1
    → IsLowestTerms (a * c) (b * d) (a / g * (c / h)) (b / h * (d / g))
lowest_terms_by_gcds a b c d g h p q some_b some_d ab cd =
    rw (p, q) (lowest_terms-crosswise a b c d some_b some_d (gcd_one_is_coprime a b ab) (gcd_one_is_coprime c d cd))

-- a ratio in lowest terms has no common divisor but 1
pub lowest_terms_gcd : (a b top bottom : ℕ) → 0 < b → IsLowestTerms a b top bottom → IsGcd top bottom 1
lowest_terms_gcd a b top bottom some low =
    rw (← low.top_is, ← low.bottom_is) (coprime_has_gcd_one _ _ (coprime-quotients a b (gcd_some a b some)))

-- the denominator of a ratio in lowest terms is above 0
pub lowest_terms_denominator_some : (a b top bottom : ℕ) → 0 < b → IsLowestTerms a b top bottom → 0 < bottom
lowest_terms_denominator_some a b top zero some low =
    let none : gcd a b * 0 ≡ b = ap (λ n. gcd a b * n) (sym low.bottom_is) ∙ mul-div_cancel' (gcd a b) (gcd_is a b).1 in
    absurd (omega (arith, mul-zero (gcd a b)))
lowest_terms_denominator_some a b top (suc bottom) some low = omega arith

-- coprime numbers whose ratio is a / d are a / d in lowest terms
pub lowest_terms-cross : (a d p q : ℕ) → 0 < d → 0 < q → IsCoprime p q → p * d ≡ a * q → IsLowestTerms a d p q
lowest_terms-cross a d p q some some_q coprime cross =
    let g = gcd a d in
    let some_g : 0 < g = gcd_some a d some in
    let whole : d ≡ q * g =
    sym (mul-one d) ∙ ap (λ n. d * n) (sym coprime.one) ∙ sym (gcd-mul d p q)
    ∙ ap (λ n. gcd n (d * q)) (mul_comm d p ∙ cross ∙ mul_comm a q) ∙ ap (λ n. gcd (q * a) n) (mul_comm d q)
    ∙ gcd-mul q a d in
    let bottom : d / g ≡ q = ap (λ n. n / g) (whole ∙ mul_comm q g) ∙ mul-div_cancel_left q some_g in
    let even : q * a ≡ q * (g * p) = mul_comm q a ∙ sym cross ∙ ap (λ n. p * n) whole ∙ mul_comm p (q * g)
    ∙ mul_assoc q g p in
    let top_times : a ≡ g * p = sym (mul-div_cancel_left a some_q) ∙ ap (λ n. n / q) even
    ∙ mul-div_cancel_left (g * p) some_q in
    record { top_is = ap (λ n. n / g) top_times ∙ mul-div_cancel_left p some_g; bottom_is = bottom }

-- a ratio in lowest terms has the value of the ratio
pub cross-lowest_terms : (a d p q : ℕ) → IsLowestTerms a d p q → p * d ≡ a * q
cross-lowest_terms a d p q low =
    let g = gcd a d in
    let a_is : g * p ≡ a = ap (λ n. g * n) (sym low.top_is) ∙ mul-div_cancel' g (gcd_is a d).0 in
    let d_is : g * q ≡ d = ap (λ n. g * n) (sym low.bottom_is) ∙ mul-div_cancel' g (gcd_is a d).1 in
    ap (λ n. p * n) (sym d_is) ∙ sym (mul_assoc p g q) ∙ ap (λ n. n * q) (mul_comm p g ∙ a_is)

-- a ratio of coprime numbers is in lowest terms
pub coprime_ratio_is_lowest_terms : (a b : ℕ) → 0 < b → IsCoprime a b → IsLowestTerms a b a b
coprime_ratio_is_lowest_terms a b some h = lowest_terms-cross a b a b some some h refl
