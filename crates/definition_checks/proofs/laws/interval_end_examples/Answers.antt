use Rattle.std.proofs.Common.{refl}
use Rattle.frac128.specs.Divisors.{gcd, gcd_within}
use Rattle.frac128.specs.Numerals.{greatest_whole_passing}
use Rattle.frac128.specs.Steps.{lowest_terms}
use Rattle.def_entry.specs.Intervals.{interval_at}
use Rattle.def_entry.specs.Numbers.{entry_text_number}
use Rattle.definition_checks.specs.IntervalEnds.{IntervalEndExamples}
use Rattle.definition_checks.proofs.laws.interval_end_examples.Goals as goal

examples : IntervalEndExamples
unfolding gcd gcd_within greatest_whole_passing lowest_terms interval_at entry_text_number
examples = record {
  closed_upper_end = refl;
  above_closed_end = refl;
  open_upper_end = refl;
  closed_lower_end = refl;
  below_closed_end = refl;
  open_lower_end = refl;
  closed_end_of_half_open = refl;
  one_number = refl;
  no_number = refl;
  no_lower_end = refl;
  no_upper_end = refl;
}

pub returns : goal.returns
returns c = examples
