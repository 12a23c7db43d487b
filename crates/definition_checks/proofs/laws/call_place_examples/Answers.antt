use Rattle.std.proofs.Common.{refl}
use Rattle.definition_checks.specs.CallPlaces.{CallPlaceExamples}
use Rattle.definition_checks.proofs.laws.call_place_examples.Goals as goal

examples : CallPlaceExamples
examples = record {
  plural_unit = refl;
  plural_function = refl;
  prefixed_unit = refl;
  prefixed_function = refl;
  function_before_plural = refl;
}

pub returns : goal.returns
returns c = examples
