use Rattle.std.proofs.Common.{refl}
use Rattle.frac128.specs.Divisors.{gcd, gcd_within}
use Rattle.frac128.specs.Steps.{lowest_terms}
use Rattle.value_sources.specs.FailedSteps.{source_value_of_tree}
use Rattle.value_sources.proofs.laws.step_examples_law.Goals as goal

pub returns : goal.returns
unfolding gcd gcd_within lowest_terms source_value_of_tree
returns c = record { nested_calls = refl; division_by_zero = refl }
