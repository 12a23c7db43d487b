-- Orders and equations of products.
use Rattle.std.proofs.Common.{◌≡◌, ◌<◌, ◌≤◌, ◌+◌, ◌-◌, ◌*◌, ℕ, arith, sym, inl, inr}
use Rattle.std.specs.Int.{abs_diff}
use Rattle.std.proofs.lemmas.Bool.{cases_lt}

-- multiplying by a factor above 0 preserves strict order
pub scaled_digits_lt : (m n d : ℕ) → m < n → 0 < d → m * d < n * d
scaled_digits_lt m n d h some = grind arith

-- cancelling a factor above 0 preserves order
pub cancelled_digits_le : (m n d : ℕ) → 0 < d → m * d ≤ n * d → m ≤ n
cancelled_digits_le m n d some h = grind arith

-- the distance from x to x + z is z
rounding_abs_diff_up : (x z : ℕ) → abs_diff x (x + z) ≡ z
rounding_abs_diff_up x z = omega arith

-- the distance from x + z to x is z
rounding_abs_diff_down : (x z : ℕ) → abs_diff (x + z) x ≡ z
rounding_abs_diff_down x z = omega arith

-- multiplying a distance multiplies both numbers
pub rounding_abs_diff-mul : (x y k : ℕ) → abs_diff x y * k ≡ abs_diff (x * k) (y * k)
rounding_abs_diff-mul x y k = elim (cases_lt x y) [
  | inl h ↦ upper (y - x) (omega arith)
  | inr h ↦ lower (x - y) (omega arith)
]
  where
    spread : (m n : ℕ) → (m + n) * k ≡ m * k + n * k
    spread m n = omega arith

    upper : (z : ℕ) → y ≡ x + z → abs_diff x y * k ≡ abs_diff (x * k) (y * k)
    upper z e = rw (e, rounding_abs_diff_up x z, spread x z) (sym (rounding_abs_diff_up (x * k) (z * k)))

    lower : (z : ℕ) → x ≡ y + z → abs_diff x y * k ≡ abs_diff (x * k) (y * k)
    lower z e = rw (e, rounding_abs_diff_down y z, spread y z) (sym (rounding_abs_diff_down (y * k) (z * k)))
