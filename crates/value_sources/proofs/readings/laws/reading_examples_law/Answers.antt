use Rattle.std.proofs.Common.{refl}
use Rattle.value_sources.proofs.readings.laws.reading_examples_law.Goals as goal

pub returns : goal.returns
returns c = record { hidden = refl; two = refl; no_readings = refl }
