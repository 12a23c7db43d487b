use Rattle.value_sources.proofs.Values.{source_value_law}
use Rattle.value_sources.proofs.laws.value_law.Goals as goal

pub returns : goal.returns
returns c = λ table n e is closed. source_value_law c.closed_law.ensures c.closed_meaning_law.ensures table n e is
    closed
