-- Euclid's algorithm.
use Rattle.std.proofs.Common.{◌≡◌, ◌*◌, ◌/◌, ◌%◌, ◌<◌, ◌-◌, ℕ, suc, zero, arith, refl, sym, ap, subst, ◌∙◌}
use Rattle.std.specs.Int.{IsGcd}
use Rattle.std.proofs.lemmas.Nat.Gcd.{IsGcd-from_zero, IsGcd-from_mod, same_from_IsGcd, dvd_antisymm, dvd-zero}
use Rattle.std.proofs.Math.Nat.{mod-lt, mul_assoc, mod-eq-sub-mul-div, mul-div-mul_left, mul-sub, zero-mul}
use Prim.Native.Nat.{◌∣◌}
use Rattle.frac128.specs.Divisors.{gcd, gcd_within, GcdLaw}

-- enough steps give the greatest common divisor
gcd_within_is : (steps a b : ℕ) → b < suc steps → IsGcd a b (gcd_within steps a b)
unfolding gcd_within
gcd_within_is steps a zero h = IsGcd-from_zero a zero refl
gcd_within_is zero a (suc b) h = absurd (omega arith)
gcd_within_is (suc steps) a (suc b) h =
    let least : a % suc b < suc b = mod-lt a (omega arith) in
    IsGcd-from_mod a (suc b) _ (gcd_within_is steps (suc b) (a % suc b) (omega arith))

-- the greatest common divisor divides both numbers, and each common divisor divides it
pub gcd_is : GcdLaw
unfolding gcd
gcd_is a b = gcd_within_is b a b (omega arith)

-- Euclid's step
pub gcd_step : (a b : ℕ) → 0 < b → gcd b (a % b) ≡ gcd a b
gcd_step a b h = same_from_IsGcd a b _ _ (IsGcd-from_mod a b _ (gcd_is b (a % b))) (gcd_is a b)

-- the end of Euclid's steps
pub gcd_zero : (a : ℕ) → gcd a 0 ≡ a
gcd_zero a = same_from_IsGcd a 0 _ _ (gcd_is a 0) (IsGcd-from_zero a 0 refl)

-- the remainder of multiples is the multiple of the remainder
gcd_mul-mod-mul : (m a b : ℕ) → (m * a) % (m * b) ≡ m * (a % b)
gcd_mul-mod-mul zero a b = rw (zero-mul a, zero-mul b, zero-mul (a % b)) refl
gcd_mul-mod-mul (suc m) a b =
    mod-eq-sub-mul-div (suc m * a) (suc m * b)
    ∙ ap (λ q. suc m * a - suc m * b * q) (mul-div-mul_left a b (omega arith))
    ∙ ap (λ q. suc m * a - q) (mul_assoc (suc m) b (a / b))
    ∙ sym (mul-sub (suc m) a (b * (a / b)))
    ∙ ap (λ q. suc m * q) (sym (mod-eq-sub-mul-div a b))

-- Euclid's steps on multiples are multiples of the steps
gcd_within_of_multiples : (steps m a b : ℕ) → b < suc steps → IsGcd (m * a) (m * b) (m * gcd_within steps a b)
unfolding gcd_within
gcd_within_of_multiples steps m a zero h = IsGcd-from_zero (m * a) (m * 0) (omega arith)
gcd_within_of_multiples zero m a (suc b) h = absurd (omega arith)
gcd_within_of_multiples (suc steps) m a (suc b) h =
    let least : a % suc b < suc b = mod-lt a (omega arith) in
    let rest = gcd_within_of_multiples steps m (suc b) (a % suc b) (omega arith) in
    IsGcd-from_mod (m * a) (m * suc b) _ (rw (gcd_mul-mod-mul m a (suc b)) rest)

-- the greatest common divisor of multiples is the multiple of the greatest common divisor
pub gcd-mul : (m a b : ℕ) → gcd (m * a) (m * b) ≡ m * gcd a b
unfolding gcd
gcd-mul m a b = same_from_IsGcd (m * a) (m * b) _ _ (gcd_is (m * a) (m * b))
    (gcd_within_of_multiples b m a b (omega arith))

-- the greatest common divisor with a number above 0 is above 0
pub gcd_some : (a b : ℕ) → 0 < b → 0 < gcd a b
gcd_some a b h = above (gcd a b) refl
  where
    above : (g : ℕ) → gcd a b ≡ g → 0 < g
    above zero e =
        let none : 0 ≡ b = dvd_antisymm (subst (λ g. g ∣ b) e (gcd_is a b).1) (dvd-zero b) in
        absurd (omega arith)
    above (suc g) e = omega arith
