-- Exact quotients.
use Rattle.std.specs.Prelude.{◌≡◌, ◌≢◌, ◌<◌, ◌↔◌, pos, Ok}
use Rattle.frac128.specs.Exact.{exact_fraction_product}
use Rattle.frac128.specs.Fraction.{AreEquivalentFractions, Fraction, IsFrac}
use Rattle.frac128.specs.Steps.{fraction_quotient}

-- v is the exact quotient of x and y: y is not 0, v times y is x, and v is in lowest terms, with a numerator and a
-- denominator of at most 2 ^ 127 - 1
pub record IsConversionQuotient (x y v : Fraction) : Type 0 where
  pub denominator : 0 < x.den
  pub divisor : y.num ≢ pos 0
  pub product_exact : AreEquivalentFractions (exact_fraction_product v y) x
  pub frac : IsFrac v

-- law: the result of a division is a fraction if and only if it is the exact quotient
abbrev pub ConversionQuotientLaw : Type 0
ConversionQuotientLaw = (x y v : Fraction) → (fraction_quotient x y ≡ Ok v) ↔ IsConversionQuotient x y v
