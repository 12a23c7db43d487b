use Rattle.std.proofs.Common.{refl}
use Rattle.std.specs.Fmt.{digits}
use Rattle.frac128.specs.Divisors.{gcd, gcd_within}
use Rattle.frac128.specs.Roots.{fraction_root}
use Rattle.frac128.specs.Steps.{lowest_terms}
use Rattle.quantity.specs.Examples.{QuantityPowersLaw, QuantityTextsLaw}
use Rattle.quantity.proofs.laws.examples_law.Goals as goal

powers : QuantityPowersLaw
unfolding gcd gcd_within lowest_terms fraction_root
powers = record {
  root = refl;
  negative_power = refl;
  odd_root = refl;
  no_power = refl;
  no_root = refl;
  below_zero = refl;
  zero_to_negative = refl;
  out_of_range = refl;
}

texts : QuantityTextsLaw
unfolding digits
texts = record { no_units = refl; whole_powers = refl; under = refl; only_under = refl; root = refl }

pub returns : goal.returns
returns c = record { powers = powers; text_examples = texts }
