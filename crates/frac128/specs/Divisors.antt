-- The greatest common divisor, by Euclid's steps.
use Rattle.std.specs.Prelude.{◌≡◌, ℕ, suc, zero, ◌%◌, ◌/◌, ◌*◌, ◌<◌, ◌^◌, ◌≤◌, ◌⊎◌}
use Rattle.std.specs.Int.{◌∣◌, IsGcd}

-- Euclid's steps, at most so many: b steps are enough, since the second number falls with each
unfoldable pub gcd_within : ℕ → ℕ → ℕ → ℕ
gcd_within steps a zero = a
gcd_within zero a (suc b) = a
gcd_within (suc steps) a (suc b) = gcd_within steps (suc b) (a % suc b)

-- the greatest common divisor of two numbers
unfoldable pub gcd : ℕ → ℕ → ℕ
gcd a b = gcd_within b a b

-- law: the greatest common divisor divides both numbers, and every common divisor divides it
abbrev pub GcdLaw : Type 0
GcdLaw = (a b : ℕ) → IsGcd a b (gcd a b)

-- m is the least common multiple of a and b: both divide it, and it divides every common multiple
pub record IsLcm (a b m : ℕ) : Type 0 where
  pub first_divides : a ∣ m
  pub second_divides : b ∣ m
  pub least_multiple : (n : ℕ) → a ∣ n → b ∣ n → m ∣ n

-- the least common multiple of two numbers
unfoldable pub lcm : ℕ → ℕ → ℕ
lcm a b = a / gcd a b * b

-- law: `lcm` gives the least common multiple
abbrev pub LcmLaw : Type 0
LcmLaw = (a b : ℕ) → 0 < b → IsLcm a b (lcm a b)

-- top / bottom is a / b in lowest terms
pub record IsLowestTerms (a b top bottom : ℕ) : Type 0 where
  pub top_is : a / gcd a b ≡ top
  pub bottom_is : b / gcd a b ≡ bottom

-- in lowest terms a / b has a part of more than 128 bits
abbrev pub HasWideLowestTerms : ℕ → ℕ → Type 0
HasWideLowestTerms a b = (2 ^ 128 ≤ a / gcd a b) ⊎ (2 ^ 128 ≤ b / gcd a b)
