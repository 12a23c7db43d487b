use Rattle.std.proofs.Common.{refl}
use Rattle.frac128.specs.Divisors.{gcd, gcd_within, lcm}
use Rattle.frac128.specs.Steps.{lowest_terms}
use Rattle.definition_checks.specs.NumberLimits.{NumberLimitExamples}
use Rattle.definition_checks.proofs.laws.number_limit_examples.Goals as goal

examples : NumberLimitExamples
unfolding gcd gcd_within lcm lowest_terms
examples = record {
  one_denominator = refl;
  two_denominators = refl;
  multiple_too_large = refl;
  fits_before_reduction = refl;
  fits_only_reduced = refl;
  difference_fits_only_reduced = refl;
  sixtieth = refl;
  sixty_first_part = refl;
  largest_exponent = refl;
  above_largest_exponent = refl;
  smallest_exponent = refl;
  below_smallest_exponent = refl;
}

pub returns : goal.returns
returns c = examples
