-- The whole number that is nearest to a ratio of two whole numbers.
use Rattle.std.specs.Prelude.{◌≡◌, ◌≤◌, ◌<◌, ◌+◌, ◌*◌, ◌/◌, ◌%◌, ◌⊎◌, ℕ}
use Rattle.std.specs.Int.{abs_diff}
use Rattle.std.specs.Ordering.{nat_cmp}
use Rattle.std.specs.declared.cmp.Ordering.{Ordering}
use Rattle.std.specs.declared.cmp.Ordering.TheVariants.{Less, Equal, Greater}

-- the distance of a whole number from a / b, times b
abbrev pub distance_from_fraction : ℕ → ℕ → ℕ → ℕ
distance_from_fraction a b n = abs_diff a (n * b)

-- no whole number is nearer to a / b than n, and n is even if another one is as near
pub record IsFractionNearestWhole (a b n : ℕ) : Type 0 where
  pub near : (m : ℕ) → distance_from_fraction a b n ≤ distance_from_fraction a b m
  pub even_on_tie : (m : ℕ) → distance_from_fraction a b m ≡ distance_from_fraction a b n → (m ≡ n) ⊎ (n % 2 ≡ 0)

-- a whole number or the next one, as the part after the first compares with a half; at a half the even one
abbrev pub whole_by_fraction_part : ℕ → Ordering → ℕ
whole_by_fraction_part n Less = n
whole_by_fraction_part n Equal = n + n % 2
whole_by_fraction_part n Greater = n + 1

-- the whole number nearest to a / b
abbrev pub fraction_nearest_whole : ℕ → ℕ → ℕ
fraction_nearest_whole a b = whole_by_fraction_part (a / b) (nat_cmp (2 * (a % b)) b)

-- law: `fraction_nearest_whole` gives the nearest whole number, and no other number is the nearest one
abbrev pub FractionNearestWholeLaw : Type 0
FractionNearestWholeLaw = (a b : ℕ) → 0 < b
    → IsFractionNearestWhole a b (fraction_nearest_whole a b) × ((n : ℕ) → IsFractionNearestWhole a b n
    → n ≡ fraction_nearest_whole a b)
