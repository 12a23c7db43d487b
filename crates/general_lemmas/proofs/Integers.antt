-- Signed numbers: negation, magnitudes and products.
use Rattle.std.proofs.Common.{◌≡◌, ◌*◌, ℕ, suc, zero, ℤ, pos, negsuc, neg_ℤ, ◌*ℤ◌, unsigned_abs, refl, sym, ap, ◌∙◌}
use Rattle.std.proofs.Math.IntN.{neg_ℤ-neg_ℤ, negsuc-*ℤ-pos}
use Rattle.std.proofs.Math.Nat.{mul_assoc, zero-mul}

-- negation keeps the magnitude
pub abs-neg : (z : ℤ) → unsigned_abs (neg_ℤ z) ≡ unsigned_abs z
abs-neg (pos zero) = refl
abs-neg (pos (suc n)) = refl
abs-neg (negsuc n) = refl

-- negating a product is negating its first factor
pub neg-times : (z : ℤ) (k : ℕ) → neg_ℤ (z *ℤ pos k) ≡ neg_ℤ z *ℤ pos k
neg-times (pos zero) k = rw (zero-mul k) refl
neg-times (pos (suc n)) k = refl
neg-times (negsuc n) k = neg_ℤ-neg_ℤ (pos (suc n * k))

-- multiplying by two numbers is multiplying by their product
pub mul-twice : (z : ℤ) (a b : ℕ) → z *ℤ pos a *ℤ pos b ≡ z *ℤ pos (a * b)
mul-twice (pos n) a b = ap pos (mul_assoc n a b)
mul-twice (negsuc n) a b =
    ap (λ k. k *ℤ pos b) (negsuc-*ℤ-pos n a) ∙ sym (neg-times (pos (suc n * a)) b)
    ∙ ap (λ k. neg_ℤ (pos k)) (mul_assoc (suc n) a b) ∙ sym (negsuc-*ℤ-pos n (a * b))
