-- Fractions: reduced pairs of whole numbers without bound.
use Rattle.std.specs.Prelude.{◌≤◌, ◌<◌, ◌-◌, ◌*ℤ◌, ◌^◌, ◌&&◌, ◌≡◌, ℕ, ℤ, pos, neg_ℤ, unsigned_abs, nat_le, Bool}
use Rattle.std.specs.Int.{IsGcd}

-- a numerator and a denominator
pub record Fraction : Type 0 where
  pub num : ℤ
  pub den : ℕ

-- the denominator is at least 1, and no number but 1 divides both
pub record IsReducedFraction (x : Fraction) : Type 0 where
  pub den_positive : 0 < x.den
  pub coprime : IsGcd (unsigned_abs x.num) x.den 1

-- two fractions have the same value: their cross products are equal
abbrev pub AreEquivalentFractions : Fraction → Fraction → Type 0
AreEquivalentFractions x y = x.num *ℤ pos y.den ≡ y.num *ℤ pos x.den

-- a whole number
abbrev pub whole_fraction : ℤ → Fraction
whole_fraction n = record { num = n; den = 1 }

-- the fraction with the opposite sign
abbrev pub opposite_fraction : Fraction → Fraction
opposite_fraction x = record { num = neg_ℤ x.num; den = x.den }

-- the largest numerator and denominator
abbrev pub largest_fraction_part : ℕ
largest_fraction_part = 2 ^ 127 - 1

-- the numerator is in -most..most and the denominator at most `largest_fraction_part`
abbrev pub fraction_fits : Fraction → Bool
fraction_fits x = nat_le (unsigned_abs x.num) largest_fraction_part && nat_le x.den largest_fraction_part

-- the invariant of every fraction in the program
pub record IsFrac (x : Fraction) : Type 0 where
  pub lowest_terms : IsReducedFraction x
  pub num_fits : unsigned_abs x.num ≤ largest_fraction_part
  pub den_fits : x.den ≤ largest_fraction_part
