-- Least common multiples.
use Rattle.std.proofs.Common.{◌≡◌, ◌*◌, ◌/◌, ◌<◌, ℕ, refl, sym, ap, subst, ◌∙◌}
use Rattle.std.specs.Int.{◌∣◌}
use Rattle.std.proofs.Math.Nat.{dvd-mul_left, dvd-mul_right, dvd_of_mul-dvd-mul_right, mul-div_cancel'}
use Rattle.std.proofs.Math.Nat.{mul-dvd-mul_left, mul_assoc, mul_comm}
use Rattle.frac128.specs.Divisors.{LcmLaw, gcd, lcm}
use Rattle.frac128.proofs.Euclid.{gcd_is, gcd-mul, gcd_some}

-- the least common multiple, with the quotient of the first number
pub lcm-left : (a b : ℕ) → lcm a b ≡ a / gcd a b * b
unfolding lcm
lcm-left a b = refl

-- the least common multiple, with the quotient of the second number
pub lcm-right : (a b : ℕ) → lcm a b ≡ a * (b / gcd a b)
unfolding lcm
lcm-right a b =
    let g = gcd a b in
    let a_is : g * (a / g) ≡ a = mul-div_cancel' g (gcd_is a b).0 in
    let b_is : g * (b / g) ≡ b = mul-div_cancel' g (gcd_is a b).1 in
    ap (λ n. a / g * n) (sym b_is) ∙ sym (mul_assoc (a / g) g (b / g))
    ∙ ap (λ n. n * (b / g)) (mul_comm (a / g) g ∙ a_is)

-- the least common multiple times the greatest common divisor is the product
pub lcm-times : (a b : ℕ) → lcm a b * gcd a b ≡ a * b
lcm-times a b =
    let g = gcd a b in
    let b_is : g * (b / g) ≡ b = mul-div_cancel' g (gcd_is a b).1 in
    ap (λ n. n * g) (lcm-right a b) ∙ mul_assoc a (b / g) g ∙ ap (λ n. a * n) (mul_comm (b / g) g ∙ b_is)

-- the least common multiple divides each common multiple
lcm_least : (a b n : ℕ) → 0 < b → a ∣ n → b ∣ n → lcm a b ∣ n
lcm_least a b n some p q =
    let left : a * b ∣ n * a = subst (λ m. a * b ∣ m) (mul_comm a n) (mul-dvd-mul_left b a q) in
    let right : a * b ∣ n * b =
    subst (λ m. m ∣ n * b) (mul_comm b a) (subst (λ m. b * a ∣ m) (mul_comm b n) (mul-dvd-mul_left a b p)) in
    let both : a * b ∣ n * gcd a b =
    subst (λ m. a * b ∣ m) (gcd-mul n a b) ((gcd_is (n * a) (n * b)).2 (a * b) left right) in
    dvd_of_mul-dvd-mul_right (lcm a b) (gcd_some a b some) (subst (λ m. m ∣ n * gcd a b) (sym (lcm-times a b)) both)

-- the law of the least common multiple
pub lcm_is : LcmLaw
lcm_is a b some = record {
  first_divides = subst (λ m. a ∣ m) (sym (lcm-right a b)) (dvd-mul_right a (b / gcd a b));
  second_divides = subst (λ m. b ∣ m) (sym (lcm-left a b)) (dvd-mul_left b (a / gcd a b));
  least_multiple = λ n p q. lcm_least a b n some p q;
}
