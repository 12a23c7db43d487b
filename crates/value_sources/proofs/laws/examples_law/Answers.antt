use Rattle.std.proofs.Common.{refl}
use Rattle.value_sources.specs.Rows.{Finished, Skipped, Visited}
use Rattle.value_sources.proofs.laws.examples_law.Goals as goal

pub returns : goal.returns
returns c = record {
  plural = Visited refl refl (Visited refl refl (Visited refl refl Finished));
  word_twice = Visited refl refl (Skipped refl Finished);
  unknown_word = Skipped refl Finished;
  cycle = Visited refl refl (Skipped refl Finished);
  function = Visited refl refl (Visited refl refl (Visited refl refl (Visited refl refl Finished)));
  prefix_value = refl;
  unit_value = refl;
  function_value = refl;
}
