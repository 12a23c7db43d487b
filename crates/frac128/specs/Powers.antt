-- Whole powers.
use Rattle.std.specs.Prelude.{◌^◌, ℕ, ℤ, pos, negsuc, suc, Result}
use Rattle.std.specs.Int.{int_pow}
use Rattle.frac128.specs.declared.fault.FracFault.{FracFault}
use Rattle.frac128.specs.Fraction.{Fraction}
use Rattle.frac128.specs.Steps.{ratio}

-- numerator and denominator to the power n
abbrev pub power_fraction : Fraction → ℕ → Fraction
power_fraction x n = record { num = int_pow x.num n; den = x.den ^ n }

-- x to the power k: the quotient of the two powers, inverted if k is below 0
abbrev pub fraction_power : Fraction → ℤ → Result Fraction FracFault
fraction_power x (pos n) = ratio (int_pow x.num n) (pos (x.den ^ n))
fraction_power x (negsuc n) = ratio (pos (x.den ^ suc n)) (int_pow x.num (suc n))
