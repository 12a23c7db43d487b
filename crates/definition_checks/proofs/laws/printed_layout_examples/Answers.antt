use Rattle.std.proofs.Common.{refl}
use Rattle.std.specs.Fmt.{digits}
use Rattle.frac128.specs.Divisors.{gcd, gcd_within}
use Rattle.frac128.specs.Steps.{lowest_terms}
use Rattle.digits_print.specs.RatioRounding.{digit_count, digits_rounding, power_of_first_digit, rounded_at_scale}
use Rattle.definition_checks.specs.PrintedLayouts.{PrintedLayoutExamples}
use Rattle.definition_checks.proofs.laws.printed_layout_examples.Goals as goal

examples : PrintedLayoutExamples
unfolding digits gcd gcd_within lowest_terms digit_count digits_rounding power_of_first_digit rounded_at_scale
examples = record {
  ten_thousandth = refl;
  hundred_thousandth = refl;
  negative_below = refl;
  below_ten_thousandth = refl;
  rounded_up_to_plain = refl;
  two_nines = refl;
  one_hundred = refl;
  rounded_up_to_scientific = refl;
  digits_after_the_first = refl;
  negative_above = refl;
  power_minus_10 = refl;
  power_minus_9 = refl;
  power_9 = refl;
  power_10 = refl;
  power_38 = refl;
}

pub returns : goal.returns
returns c = examples
