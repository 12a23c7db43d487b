-- Sums and exponents at their limits.
use Rattle.std.specs.Prelude.{◌≡◌, ◌-◌, ◌*◌, ◌^◌, ℕ, ℤ, pos, negsuc, true, false, Ok, Err}
use Rattle.frac128.specs.Fraction.{Fraction, largest_fraction_part}
use Rattle.frac128.specs.Sums.{fraction_difference, fraction_sum}
use Rattle.frac128.specs.declared.fault.FracFault.TheVariants.{Overflow}
use Rattle.quantity.specs.Exponents.{is_exponent}

-- a fraction, by its numerator and denominator
abbrev pub limit_fraction : ℤ → ℕ → Fraction
limit_fraction n d = record { num = n; den = d }

-- the largest whole number of 127 bits
abbrev pub largest_part : ℕ
largest_part = largest_fraction_part

pub record NumberLimitExamples : Type 0 where
  -- a sum is over the least common multiple of the denominators, not over their product, which would be 10^40
  pub one_denominator : fraction_sum (limit_fraction (pos 1) (10 ^ 20)) (limit_fraction (pos 1) (10 ^ 20))
      ≡ Ok (limit_fraction (pos 1) (5 * 10 ^ 19))
  pub two_denominators : fraction_sum (limit_fraction (pos 1) (10 ^ 20)) (limit_fraction (pos 1) (10 ^ 19))
      ≡ Ok (limit_fraction (pos 11) (10 ^ 20))
  pub multiple_too_large : fraction_sum (limit_fraction (pos 1) (10 ^ 20)) (limit_fraction (pos 1) (3 ^ 40))
      ≡ Err Overflow
  -- the sum has to fit before it is reduced: 2^126 fits, but not as 2^127 over 2
  pub fits_before_reduction : fraction_sum (limit_fraction (pos (largest_part - 2)) 2) (limit_fraction (pos 1) 2)
      ≡ Ok (limit_fraction (pos (2 ^ 126 - 1)) 1)
  pub fits_only_reduced : fraction_sum (limit_fraction (pos largest_part) 2) (limit_fraction (pos 1) 2) ≡ Err Overflow
  pub difference_fits_only_reduced :
      fraction_difference (limit_fraction (pos largest_part) 2) (limit_fraction (negsuc 0) 2) ≡ Err Overflow
  -- exponents: 60 is the largest denominator, and 32,767 the largest numerator
  pub sixtieth : is_exponent (limit_fraction (pos 1) 60) ≡ true
  pub sixty_first_part : is_exponent (limit_fraction (pos 1) 61) ≡ false
  pub largest_exponent : is_exponent (limit_fraction (pos 32767) 1) ≡ true
  pub above_largest_exponent : is_exponent (limit_fraction (pos 32768) 1) ≡ false
  pub smallest_exponent : is_exponent (limit_fraction (negsuc 32766) 1) ≡ true
  pub below_smallest_exponent : is_exponent (limit_fraction (negsuc 32767) 1) ≡ false
