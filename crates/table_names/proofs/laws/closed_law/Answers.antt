use Rattle.table_names.proofs.ClosedLaws as laws
use Rattle.table_names.proofs.laws.closed_law.Goals as goal

pub returns : goal.returns
returns c = laws.closed_word_law
