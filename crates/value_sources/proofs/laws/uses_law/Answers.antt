use Rattle.value_sources.proofs.Words.{source_uses_law}
use Rattle.value_sources.proofs.laws.uses_law.Goals as goal

pub returns : goal.returns
returns c = λ table n. source_uses_law table n
